use Rattle.std.proofs.Common.{◌≡◌, ◌≤◌, ◌<◌, [], length, Some, None, sym, ap, ◌∙◌, subst}
use Rattle.dc_model.specs.Event.{Event}
use Rattle.dc_model.specs.Message.{request_of}
use Rattle.dc_packet.specs.Question.{asked}
use Rattle.dc_machine.specs.Machine.{Machine, Input, did, request_step}
use Rattle.dc_clients.specs.View.{machine_of, input_of}
use Rattle.dc_clients.proofs.TookLemmas.{took_nothing, took_as}
use Rattle.dc_clients.proofs.RequestLemmas.{took_request, no_request, too_long, not_served}
use Rattle.dc_clients.proofs.clients.Clients.hear_request.Goals as goal
use Rattle.dc_clients.proofs.clients.Clients.hear_request.Goals.{then-bytes-gt-LONGEST_REQUEST-via-then-bytes-gt-LONGEST_REQUEST, then-bytes-gt-LONGEST_REQUEST-via-else-bytes-gt-LONGEST_REQUEST+then-refuses}

pub returns-then-bytes-gt-LONGEST_REQUEST-clause-step :
    goal.returns-then-bytes-gt-LONGEST_REQUEST-clause-step
returns-then-bytes-gt-LONGEST_REQUEST-clause-step g c =
    let i : Input = input_of c.args.self.now c.args.inbox.now c.args.draws.now in
    let m : Machine = machine_of g.S.Store.cache c.args.self.now in
    let skipped : request_step i m ≡ did [] m = elim c.then-bytes-gt-LONGEST_REQUEST.branch [
      | then-bytes-gt-LONGEST_REQUEST-via-then-bytes-gt-LONGEST_REQUEST w ↦ too_long i m (subst (λ bs. 1023 < length bs) c.bytes-bytes.ensures.bytes w.if-bytes-gt-LONGEST_REQUEST.true)
      | then-bytes-gt-LONGEST_REQUEST-via-else-bytes-gt-LONGEST_REQUEST+then-refuses w ↦ not_served i m (w.if-refuses.ensures c.args.draws.now)
    ] in
    took_as g.O.Effects.acted g.S.Store.cache _ _ skipped (took_nothing g.O.Effects.acted g.S.Store.cache g.met.O.Effects.acted_none c.args.out.now c.args.self.now)

pub returns-in_default-clause-step : goal.returns-in_default-clause-step
returns-in_default-clause-step g c =
    let i : Input = input_of c.args.self.now c.args.inbox.now c.args.draws.now in
    let m : Machine = machine_of g.S.Store.cache c.args.self.now in
    let few : length c.args.inbox.now.bytes ≤ 1023 = subst (λ bs. length bs ≤ 1023) c.bytes-bytes.ensures.bytes c.if-bytes-gt-LONGEST_REQUEST.false in
    let none : request_of c.args.inbox.now.bytes ≡ None = ap request_of (sym c.bytes-bytes.ensures.bytes) ∙ sym c.in_default.ensures.request in
    took_as g.O.Effects.acted g.S.Store.cache _ _ (no_request i m few (c.if-refuses.ensures c.args.draws.now) none) (took_nothing g.O.Effects.acted g.S.Store.cache g.met.O.Effects.acted_none c.args.out.now c.args.self.now)

pub returns-clause-step : goal.returns-clause-step
returns-clause-step g c =
    let few : length c.args.inbox.now.bytes ≤ 1023 = subst (λ bs. length bs ≤ 1023) c.bytes-bytes.ensures.bytes c.if-bytes-gt-LONGEST_REQUEST.false in
    let some : request_of c.args.inbox.now.bytes ≡ Some (asked c.in-Some.request) = ap request_of (sym c.bytes-bytes.ensures.bytes) ∙ sym c.in-Some.ensures.request in
    took_request g.O.Effects.acted g.S.Store.cache g.met.O.Effects.acted_both c.args.inbox.now c.args.draws.now (asked c.in-Some.request) c.event-event.result.addr c.event-event.result.port
    (ap (λ (x : Event). x.addr) c.event-event.ensures.event) (ap (λ (x : Event). x.port) c.event-event.ensures.event) few (c.if-refuses.ensures c.args.draws.now) some c.make_room.ensures.step c.accept.ensures.step
