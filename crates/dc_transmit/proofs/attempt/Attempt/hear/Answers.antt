use Rattle.dc_transmit.specs.Attempts.{attempt_of}
use Rattle.dc_transmit.proofs.EventLemmas.{tick_follows, other_link, own_link}
use Rattle.dc_transmit.proofs.StepLemmas.{did_as, did_nothing}
use Rattle.dc_transmit.proofs.attempt.Attempt.hear.Goals as goal

pub returns-in-Tick : goal.returns-in-Tick
returns-in-Tick g c = did_as (tick_follows c.event-event.result c.args.inbox.now (attempt_of c.args.self.now) c.args.draws.now c.args.links.now c.event-event.ensures.event c.in-Tick.is) c.hear_tick.ensures

pub returns-then-event-self : goal.returns-then-event-self
returns-then-event-self g c = did_as (own_link c.event-event.result c.args.inbox.now (attempt_of c.args.self.now) c.args.draws.now c.args.links.now c.event-event.ensures.event c.in_default.not-Tick c.if-event-self.true) c.hear_link.ensures

pub returns-else-event-self : goal.returns-else-event-self
returns-else-event-self g c =
    did_nothing g.O.Effects.acted g.met.O.Effects.acted_none _ _ c.args.self.now c.args.links.now
    (other_link c.event-event.result c.args.inbox.now (attempt_of c.args.self.now) c.args.draws.now c.args.links.now c.event-event.ensures.event c.in_default.not-Tick c.if-event-self.false)
