use Rattle.dc_engine.specs.declared.events.Kind.TheVariants.{Tick, Request, ConnUp, ConnBytes, ConnDown}
use Rattle.dc_machine.specs.Machine.{step_by}
use Rattle.dc_clients.proofs.StepLemmas.{stepped, stepped_link}
use Rattle.dc_clients.proofs.clients.Clients.step.Goals as goal

pub returns-in-Tick-clause-step : goal.returns-in-Tick-clause-step
unfolding step_by
returns-in-Tick-clause-step g c =
    stepped g.O.Effects.acted g.S.Store.cache c.event.result c.args.inbox.now c.args.draws.now Tick c.event.ensures.event c.in-Tick.is c.tick.ensures.step

pub returns-in-Request-clause-step : goal.returns-in-Request-clause-step
unfolding step_by
returns-in-Request-clause-step g c =
    stepped g.O.Effects.acted g.S.Store.cache c.event.result c.args.inbox.now c.args.draws.now Request c.event.ensures.event c.in-Request.is c.hear_request.ensures.step

pub returns-in-Datagram-clause-step : goal.returns-in-Datagram-clause-step
returns-in-Datagram-clause-step g c =
    stepped_link g.O.Effects.acted g.S.Store.cache c.event.result c.args.inbox.now c.args.draws.now c.event.ensures.event c.in-Datagram.is c.hear_link.ensures.step

pub returns-in-ConnUp-clause-step : goal.returns-in-ConnUp-clause-step
unfolding step_by
returns-in-ConnUp-clause-step g c =
    stepped g.O.Effects.acted g.S.Store.cache c.event.result c.args.inbox.now c.args.draws.now ConnUp c.event.ensures.event c.in-ConnUp.is c.hear_opening.ensures.step

pub returns-in-ConnBytes-clause-step : goal.returns-in-ConnBytes-clause-step
unfolding step_by
returns-in-ConnBytes-clause-step g c =
    stepped g.O.Effects.acted g.S.Store.cache c.event.result c.args.inbox.now c.args.draws.now ConnBytes c.event.ensures.event c.in-ConnBytes.is c.hear_bytes.ensures.step

pub returns-in-ConnDown-clause-step : goal.returns-in-ConnDown-clause-step
unfolding step_by
returns-in-ConnDown-clause-step g c =
    stepped g.O.Effects.acted g.S.Store.cache c.event.result c.args.inbox.now c.args.draws.now ConnDown c.event.ensures.event c.in-ConnDown.is c.hear_closing.ensures.step
