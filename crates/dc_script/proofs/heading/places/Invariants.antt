use Rattle.std.proofs.Common.{length}
use Rattle.dc_script.proofs.Placing.{IsSoFar}
use Rattle.dc_script.proofs.heading.places.Given as goal

abbrev pub invariant-loop-word : goal.invariant-loop-word
invariant-loop-word l = IsSoFar l.fn.words l.places l.filled l.words

abbrev pub decreases-loop-word : goal.decreases-loop-word
decreases-loop-word l = length l.words
