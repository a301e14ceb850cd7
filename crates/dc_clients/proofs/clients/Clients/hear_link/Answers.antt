use Rattle.std.proofs.Common.{◌≡◌, Some, sym, ap, ◌∙◌}
use Rattle.std.specs.Prelude.{◌==◌}
use Rattle.std.specs.List.{slice_get, position}
use Rattle.dc_model.specs.Event.{Event}
use Rattle.dc_machine.specs.Machine.{Machine, Active, Input}
use Rattle.dc_clients.specs.View.{machine_of, input_of}
use Rattle.dc_clients.proofs.TookLemmas.{took_nothing, took_as}
use Rattle.dc_clients.proofs.RequestLemmas.{found_there, one_waits, nobody_waits}
use Rattle.dc_clients.proofs.clients.Clients.hear_link.Goals as goal

pub returns-in-Some-clause-step : goal.returns-in-Some-clause-step
returns-in-Some-clause-step g c =
    let m : Machine = machine_of g.S.Store.cache c.args.self.now in
    let i : Input = input_of c.args.self.now c.args.inbox.now c.args.draws.now in
    let a : (x : Active) × (slice_get c.args.self.now.queries.queries c.in-Some.i ≡ Some x) = found_there c.args.self.now.queries.queries c.in-Some.i c.in-Some.ensures.range in
    let there = ap (λ (x : Event). position (λ (b : Active). b.attempt.link == x.id) c.args.self.now.queries.queries) (sym c.event.ensures.event) ∙ sym c.in-Some.ensures.place in
    took_as g.O.Effects.acted g.S.Store.cache _ _ (one_waits i m c.in-Some.i a.0 there a.1) (c.give.ensures.step a.0 a.1)

pub returns-in_default-clause-step : goal.returns-in_default-clause-step
returns-in_default-clause-step g c =
    let m : Machine = machine_of g.S.Store.cache c.args.self.now in
    let i : Input = input_of c.args.self.now c.args.inbox.now c.args.draws.now in
    let there = ap (λ (x : Event). position (λ (b : Active). b.attempt.link == x.id) c.args.self.now.queries.queries) (sym c.event.ensures.event) ∙ sym c.in_default.ensures.place in
    took_as g.O.Effects.acted g.S.Store.cache _ _ (nobody_waits i m there) (took_nothing g.O.Effects.acted g.S.Store.cache g.met.O.Effects.acted_none c.args.out.now c.args.self.now)
