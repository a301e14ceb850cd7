use Rattle.std.proofs.Common.{◌≡◌, Bool, true, false, [], refl}
use Rattle.dc_model.specs.Event.{Event}
use Rattle.dc_event.specs.History.{gathered_by, wakes_in}
use Rattle.dc_event.proofs.tests.turns.gather.Goals as goal

no_wake : (more : Bool) (e : Event) → wakes_in (gathered_by more e) ≡ []
no_wake true e = refl
no_wake false e = refl

pub returns-in-Event : goal.returns-in-Event
returns-in-Event g c = (
  c.next-heard.new.inbox,
  gathered_by c.more.result c.more.new.inbox,
  g.met.W.World.history_then _ _ _ _ _ c.next-heard.ensures.history c.more.ensures.history,
  no_wake c.more.result c.more.new.inbox,
)

pub returns-in_default : goal.returns-in_default
returns-in_default g c = (c.next-heard.new.inbox, [], c.next-heard.ensures.history, refl)
