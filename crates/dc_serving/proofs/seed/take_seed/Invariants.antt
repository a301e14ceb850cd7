use Rattle.std.proofs.Common.{◌≡◌, ◌-◌}
use Rattle.dc_serving.proofs.SeedLemmas.{SeedSoFar}
use Rattle.dc_serving.proofs.seed.take_seed.Given as goal

abbrev pub invariant-loop-count : goal.invariant-loop-count
invariant-loop-count g l = SeedSoFar g.S.Source.took l.fn.source l.source l.seed l.count × (g.S.Source.faults l.source ≡ g.S.Source.faults l.fn.source)

abbrev pub decreases-loop-count : goal.decreases-loop-count
decreases-loop-count g l = 32 - l.count
