use Rattle.std.proofs.Common.{◌-◌, ◌≤◌}
use Rattle.dc_shards.specs.Serving.{core_opening}
use Rattle.dc_shards.proofs.MemoryLemmas.{AreAlike}
use Rattle.dc_shards.proofs.memory.bays_of.Given as goal

abbrev pub invariant-loop-count : goal.invariant-loop-count
invariant-loop-count l = (l.count ≤ l.cores) × AreAlike (core_opening l.cores l.config) l.count l.bays.items

abbrev pub decreases-loop-count : goal.decreases-loop-count
decreases-loop-count l = l.cores - l.count
