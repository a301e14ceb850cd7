use Rattle.dc_machine.proofs.Rows.{rows_more}
use Rattle.dc_machine.proofs.turns.more_rows_change_nothing.Goals as goal

pub returns : goal.returns
returns c = rows_more
