use Rattle.dc_script.proofs.LineBack.{line-back}
use Rattle.dc_script.proofs.laws.lines_are_events.Goals as goal

pub returns : goal.returns
returns c = line-back
