use Rattle.dc_lookup.specs.Filter as model
use Rattle.std.proofs.Common.{map, sym, ◌∙◌}
use Rattle.dc_filter.specs.Queue.{slots_of}
use Rattle.dc_filter.proofs.QueueLemmas.{due_is}
use Rattle.dc_filter.proofs.queue.due_place.Goals as goal

pub returns : goal.returns
returns c =
    due_is (model.soonest (map (λ s. model.due_at s.at) (slots_of c.args.queue.now))) c.in_ok-moment.moment c.args.now c.args.queue.now c.deadline_place.result (sym c.soonest.ensures ∙ c.in_ok-moment.was) c.if-moment-now.false
    c.deadline_place.ensures
