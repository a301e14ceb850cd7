use Rattle.dc_rules.proofs.Nearest.{walk_up, walk_zone}
use Rattle.dc_rules.proofs.zones.Zones.nearest_in.Goals as goal

pub returns-then-is_zone-clause-zone : goal.returns-then-is_zone-clause-zone
returns-then-is_zone-clause-zone c = walk_zone c.args.self.now _ _ c.loop-end.invariant cc

pub loop-end-preserved : goal.loop-end-preserved
loop-end-preserved c = walk_up c.args.self.now _ _ _ _ c.loop-end.invariant c.in-Some.ensures.first cc
