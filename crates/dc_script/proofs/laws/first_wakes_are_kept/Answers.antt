use Rattle.std.proofs.Common.{[], arith}
use Rattle.dc_script.proofs.FaultyLemmas.{wakes-kept}
use Rattle.dc_script.proofs.laws.first_wakes_are_kept.Goals as goal

pub returns : goal.returns
returns c = λ h. wakes-kept [] h (omega arith)
