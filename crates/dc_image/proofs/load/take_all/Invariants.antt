use Rattle.std.proofs.Common.{◌≡◌, ◌-◌, length}
use Rattle.dc_image.proofs.TakeLemmas.{TakenSoFar}
use Rattle.dc_image.proofs.load.take_all.Given as goal

abbrev pub invariant-loop-count : goal.invariant-loop-count
invariant-loop-count g l = TakenSoFar g.I.Source.took l.fn.source l.source (length l.fn.into) l.into l.count × (g.I.Source.faults l.source ≡ g.I.Source.faults l.fn.source)

abbrev pub decreases-loop-count : goal.decreases-loop-count
decreases-loop-count g l = length l.fn.into - l.count
