use Rattle.std.proofs.Common.{◌+◌, [], ◌∷◌, ◌++◌, refl, sym, ap, ◌∙◌}
use Rattle.dc_model.specs.Event.{Event}
use Rattle.dc_model.specs.Line.{line_tcpopen}
use Rattle.dc_machine.specs.Machine.{Connection, connection}
use Rattle.dc_clients.specs.View.{machine_of, input_of}
use Rattle.dc_clients.proofs.TookLemmas.{took_as, took_nothing, took_on}
use Rattle.dc_clients.proofs.StreamSteps.{missing_of, none_is, up_used, up_refused, up_opened, opened_more, place_new, took_opened}
use Rattle.dc_clients.proofs.clients.Clients.hear_opening.Goals as goal

-- The connection that an event opens.
abbrev opened_by : Event → Connection
opened_by e = record { number = e.id; addr = e.addr; port = e.port; gathered = []; deadline = e.now + 10000 }

pub returns-then-is_some-clause-step : goal.returns-then-is_some-clause-step
returns-then-is_some-clause-step g c =
    let m = machine_of g.S.Store.cache c.args.self.now in
    let i = input_of c.args.self.now c.args.inbox.now c.args.draws.now in
    took_as g.O.Effects.acted g.S.Store.cache _ _
    (up_used c.args.self.now.connections c.find.result c.event-event.result.id c.args.inbox.now.id i m c.find.ensures.found (ap (λ (e : Event). e.id) c.event-event.ensures.event) (sym c.is_some.ensures ∙ c.if-is_some.true))
    (took_nothing g.O.Effects.acted g.S.Store.cache g.met.O.Effects.acted_none c.args.out.now c.args.self.now)

pub returns-then-refuses-clause-step : goal.returns-then-refuses-clause-step
returns-then-refuses-clause-step g c =
    let m = machine_of g.S.Store.cache c.args.self.now in
    let i = input_of c.args.self.now c.args.inbox.now c.args.draws.now in
    let e = ap (λ (e : Event). e.id) c.event-event.ensures.event in
    let missing = missing_of c.args.self.now.connections c.find.result c.event-event.result.id c.args.inbox.now.id c.find.ensures.found e (none_is c.find.result (sym c.is_some.ensures ∙ c.if-is_some.false)) in
    took_as g.O.Effects.acted g.S.Store.cache _ _
    (up_refused (connection c.args.inbox.now.id m) i m c.event-event.result.id c.refuses.result missing e (c.refuses.ensures c.args.draws.now) c.if-refuses.true)
    (record { acts = c.conn_close.ensures; machine = refl; rules = refl })

pub open-requires-clause-new : goal.open-requires-clause-new
open-requires-clause-new g c =
    let m = machine_of g.S.Store.cache c.args.self.now in
    let e = ap (λ (e : Event). e.id) c.event-event.ensures.event in
    let missing = missing_of c.args.self.now.connections c.find.result c.event-event.result.id c.args.inbox.now.id c.find.ensures.found e (none_is c.find.result (sym c.is_some.ensures ∙ c.if-is_some.false)) in
    place_new m (machine_of g.S.Store.cache c.make_place.new.self) c.event-event.result.id c.args.inbox.now.id e c.make_place.ensures.step.machine missing

pub returns-clause-step : goal.returns-clause-step
returns-clause-step g c =
    let m = machine_of g.S.Store.cache c.args.self.now in
    let i = input_of c.args.self.now c.args.inbox.now c.args.draws.now in
    let e = ap (λ (e : Event). e.id) c.event-event.ensures.event in
    let missing = missing_of c.args.self.now.connections c.find.result c.event-event.result.id c.args.inbox.now.id c.find.ensures.found e (none_is c.find.result (sym c.is_some.ensures ∙ c.if-is_some.false)) in
    let text = c.text.ensures.bytes ∙ (c.line_tcpopen.ensures ∙ ap (λ (x : Event). line_tcpopen x.addr x.port) c.event-event.ensures.event) in
    let connections = c.open.ensures.connections ∙ ap (λ (x : Event). c.make_place.new.self.connections ++ (opened_by x ∷ [])) c.event-event.ensures.event in
    let more = took_opened g.O.Effects.acted g.S.Store.cache c.make_place.new.self (opened_by c.args.inbox.now) c.open.new.self c.text.result.now (line_tcpopen c.args.inbox.now.addr c.args.inbox.now.port) c.line.ensures text connections in
    took_as g.O.Effects.acted g.S.Store.cache _ _ (up_opened (connection c.args.inbox.now.id m) i m c.refuses.result missing (c.refuses.ensures c.args.draws.now) c.if-refuses.false)
    (took_on g.O.Effects.acted g.S.Store.cache g.met.O.Effects.acted_both (opened_more (opened_by c.args.inbox.now) (line_tcpopen c.args.inbox.now.addr c.args.inbox.now.port)) c.make_place.ensures.step more)
