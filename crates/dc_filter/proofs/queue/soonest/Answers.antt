use Rattle.std.proofs.Common.{arith}
use Rattle.dc_filter.proofs.QueueLemmas.{soonest_step}
use Rattle.dc_filter.proofs.queue.soonest.Goals as goal

pub loop-place-preserved : goal.loop-place-preserved
loop-place-preserved c =
    let so = c.loop-place.invariant in
    record {
      found = soonest_step c.args.queue.now c.loop-place.place c.index-queue-place.result c.deref.result.now c.loop-place.found c.due.result c.sooner-found.result (omega arith) so.within c.index-queue-place.is c.deref.ensures c.due.ensures so.found c.sooner-found.ensures;
      within = omega (arith, so.within);
    }
