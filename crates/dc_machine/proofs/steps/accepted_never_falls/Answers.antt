use Rattle.dc_machine.proofs.Moves.{step_moves}
use Rattle.dc_machine.proofs.steps.accepted_never_falls.Goals as goal

pub returns : goal.returns
returns c rules m e draws = (step_moves rules m e draws).accepted
