use Rattle.dc_filter.proofs.QueueLemmas.{fresh_is, none_fresh}
use Rattle.dc_filter.proofs.queue.tick_place.Goals as goal

pub returns-in-Some : goal.returns-in-Some
returns-in-Some c = fresh_is c.args.queue.now c.args.now c.in-Some.place c.fresh_place.result c.fresh_place.ensures c.in-Some.is

pub returns-in-None : goal.returns-in-None
returns-in-None c = none_fresh c.args.queue.now c.args.now c.fresh_place.result c.due_place.result c.fresh_place.ensures c.in-None.is c.due_place.ensures
