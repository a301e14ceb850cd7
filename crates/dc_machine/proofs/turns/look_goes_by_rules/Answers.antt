use Rattle.dc_machine.proofs.Looks.{look_holds}
use Rattle.dc_machine.proofs.turns.look_goes_by_rules.Goals as goal

pub returns : goal.returns
returns c = look_holds
