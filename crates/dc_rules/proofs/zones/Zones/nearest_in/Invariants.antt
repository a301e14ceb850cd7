use Rattle.std.proofs.Common.{length}
use Rattle.dc_rules.proofs.Nearest.{IsWalk}
use Rattle.dc_rules.proofs.zones.Zones.nearest_in.Given as goal

abbrev pub invariant-loop-end : goal.invariant-loop-end
invariant-loop-end l = IsWalk l.self l.fn.name l.end

abbrev pub decreases-loop-end : goal.decreases-loop-end
decreases-loop-end l = length l.end
