use Rattle.std.proofs.Common.{arith}
use Rattle.dc_shards.proofs.MemoryLemmas.{alike_more}
use Rattle.dc_shards.proofs.memory.bays_of.Goals as goal

pub loop-count-preserved : goal.loop-count-preserved
loop-count-preserved c =
    let made = c.in_ok-bay_of.ensures in (
      omega (arith, c.loop-count-test.true),
      alike_more _ c.loop-count.count c.loop-count.bays.items c.push.new.self.items c.in_ok-bay_of.field-0 c.loop-count.invariant.1 c.in_ok-push.ensures.items made.core made.free made.blank,
    )
