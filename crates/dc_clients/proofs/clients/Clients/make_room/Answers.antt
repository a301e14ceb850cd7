use Rattle.std.proofs.Common.{◌≡◌, ◌^◌, Some, sym, arith}
use Rattle.std.specs.List.{slice_get}
use Rattle.dc_machine.specs.Machine.{Machine, Active}
use Rattle.dc_clients.specs.View.{machine_of}
use Rattle.dc_clients.proofs.TookLemmas.{took_nothing, took_as}
use Rattle.dc_clients.proofs.RequestLemmas.{found_there, has_room, displaces, displaces_none, left_fewer, left_links, left_below}
use Rattle.dc_clients.proofs.clients.Clients.make_room.Goals as goal

pub returns-then-udp-lt-MOST_QUERIES-clause-step : goal.returns-then-udp-lt-MOST_QUERIES-clause-step
returns-then-udp-lt-MOST_QUERIES-clause-step g c =
    took_as g.O.Effects.acted g.S.Store.cache _ _ (has_room (machine_of g.S.Store.cache c.args.self.now) (omega (arith, c.udp.ensures.value)))
    (took_nothing g.O.Effects.acted g.S.Store.cache g.met.O.Effects.acted_none c.args.out.now c.args.self.now)

pub returns-in-Some-clause-step : goal.returns-in-Some-clause-step
returns-in-Some-clause-step g c =
    let m : Machine = machine_of g.S.Store.cache c.args.self.now in
    let a : (x : Active) × (slice_get c.args.self.now.queries.queries c.in-Some.i ≡ Some x) = found_there c.args.self.now.queries.queries c.in-Some.i c.in-Some.ensures.range in
    took_as g.O.Effects.acted g.S.Store.cache _ _ (displaces m c.in-Some.i a.0 (omega (arith, c.udp.ensures.value)) (sym c.in-Some.ensures.place) a.1) (c.drop_active.ensures.step a.0 a.1)

pub returns-in-Some-clause-fewer : goal.returns-in-Some-clause-fewer
returns-in-Some-clause-fewer g c =
    let a : (x : Active) × (slice_get c.args.self.now.queries.queries c.in-Some.i ≡ Some x) = found_there c.args.self.now.queries.queries c.in-Some.i c.in-Some.ensures.range in
    left_fewer g.S.Store.cache c.args.self.now c.drop_active.new.self c.in-Some.i c.in-Some.ensures.range (c.drop_active.ensures.step a.0 a.1).machine

pub returns-in-Some-clause-links : goal.returns-in-Some-clause-links
returns-in-Some-clause-links g c =
    let a : (x : Active) × (slice_get c.args.self.now.queries.queries c.in-Some.i ≡ Some x) = found_there c.args.self.now.queries.queries c.in-Some.i c.in-Some.ensures.range in
    left_links g.S.Store.cache c.args.self.now c.drop_active.new.self c.in-Some.i (c.drop_active.ensures.step a.0 a.1).machine

pub returns-in-Some-clause-counts : goal.returns-in-Some-clause-counts
returns-in-Some-clause-counts g c =
    let a : (x : Active) × (slice_get c.args.self.now.queries.queries c.in-Some.i ≡ Some x) = found_there c.args.self.now.queries.queries c.in-Some.i c.in-Some.ensures.range in
    left_below g.S.Store.cache c.args.self.now c.drop_active.new.self c.in-Some.i (2 ^ 61) (2 ^ 62) (omega arith) c.requires.counts (c.drop_active.ensures.step a.0 a.1).machine

pub returns-in_default-clause-step : goal.returns-in_default-clause-step
returns-in_default-clause-step g c =
    took_as g.O.Effects.acted g.S.Store.cache _ _ (displaces_none (machine_of g.S.Store.cache c.args.self.now) (sym c.in_default.ensures.place))
    (took_nothing g.O.Effects.acted g.S.Store.cache g.met.O.Effects.acted_none c.args.out.now c.args.self.now)
