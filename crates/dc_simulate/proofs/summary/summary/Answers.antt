use Rattle.std.proofs.Common.{refl}
use Rattle.dc_simulation.specs.Loop.{summary}
use Rattle.dc_simulate.proofs.summary.summary.Goals as goal

pub returns : goal.returns
unfolding summary
returns c =
    rw (
      c.put_count-6.ensures.items,
      c.put_count-5.ensures.items,
      c.put_count-4.ensures.items,
      c.put_count-3.ensures.items,
      c.put_count-2.ensures.items,
      c.put_count.ensures.items,
      c.new-text.ensures,
      c.given.ensures,
      c.counts-counts.ensures.accepted,
      c.counts-counts.ensures.sent,
      c.counts-counts.ensures.dropped,
      c.counts-counts.ensures.active,
      c.motion.ensures,
      c.store.ensures,
    ) refl
