use Rattle.std.proofs.Common.{[], ap}
use Rattle.dc_model.specs.Event.{Event}
use Rattle.dc_machine.specs.Machine.{Machine, Input, first_ready, tick_by, asked, did, due_step}
use Rattle.dc_connections.specs.Places.{connection_at}
use Rattle.dc_clients.specs.View.{machine_of, input_of}
use Rattle.dc_clients.proofs.TookLemmas.{took_as, took_nothing}
use Rattle.dc_clients.proofs.ClockLemmas.{tick_ready, tick_none, tick_met, tick_early}
use Rattle.dc_clients.proofs.clients.Clients.tick.Goals as goal

pub returns-in-Some-clause-step : goal.returns-in-Some-clause-step
returns-in-Some-clause-step g c =
    let m : Machine = machine_of g.S.Store.cache c.args.self.now in
    let i : Input = input_of c.args.self.now c.args.inbox.now c.args.draws.now in
    took_as g.O.Effects.acted g.S.Store.cache (tick_by (first_ready m) i m) (asked i (connection_at m.connections c.in-Some.i) m)
    (tick_ready i m c.first_ready.result c.in-Some.i c.first_ready.ensures.ready c.in-Some.is) c.ask.ensures.step

pub returns-in_default-first_due-clause-step : goal.returns-in_default-first_due-clause-step
returns-in_default-first_due-clause-step g c =
    let m : Machine = machine_of g.S.Store.cache c.args.self.now in
    let i : Input = input_of c.args.self.now c.args.inbox.now c.args.draws.now in
    took_as g.O.Effects.acted g.S.Store.cache (tick_by (first_ready m) i m) (did [] m)
    (tick_none i m c.first_ready.result c.first_ready.ensures.ready c.in_default.is c.in_default-first_due.ensures)
    (took_nothing g.O.Effects.acted g.S.Store.cache g.met.O.Effects.acted_none c.args.out.now c.args.self.now)

pub returns-then-deadline-event-clause-step : goal.returns-then-deadline-event-clause-step
returns-then-deadline-event-clause-step g c =
    let m : Machine = machine_of g.S.Store.cache c.args.self.now in
    let i : Input = input_of c.args.self.now c.args.inbox.now c.args.draws.now in
    took_as g.O.Effects.acted g.S.Store.cache (tick_by (first_ready m) i m) (due_step c.in-Some-first_due.ensures.0 i m)
    (tick_met i m c.first_ready.result c.in-Some-first_due.due c.deadline.result c.event.result.now c.in-Some-first_due.ensures c.first_ready.ensures.ready c.in_default.is
    c.deadline.ensures (ap (λ (e : Event). e.now) c.event.ensures.event) c.if-deadline-event.true)
    (c.meet.ensures.step c.in-Some-first_due.ensures.0 c.in-Some-first_due.ensures.2)

pub returns-else-deadline-event-clause-step : goal.returns-else-deadline-event-clause-step
returns-else-deadline-event-clause-step g c =
    let m : Machine = machine_of g.S.Store.cache c.args.self.now in
    let i : Input = input_of c.args.self.now c.args.inbox.now c.args.draws.now in
    took_as g.O.Effects.acted g.S.Store.cache (tick_by (first_ready m) i m) (did [] m)
    (tick_early i m c.first_ready.result c.in-Some-first_due.due c.deadline.result c.event.result.now c.in-Some-first_due.ensures c.first_ready.ensures.ready c.in_default.is
    c.deadline.ensures (ap (λ (e : Event). e.now) c.event.ensures.event) c.if-deadline-event.false)
    (took_nothing g.O.Effects.acted g.S.Store.cache g.met.O.Effects.acted_none c.args.out.now c.args.self.now)
