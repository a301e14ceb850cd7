use Rattle.std.proofs.Common.{ap}
use Rattle.dc_model.specs.Event.{Event}
use Rattle.dc_machine.specs.Machine.{connection}
use Rattle.dc_connections.specs.Places.{connection_at}
use Rattle.dc_clients.specs.View.{machine_of}
use Rattle.dc_clients.proofs.TookLemmas.{took_nothing, took_as}
use Rattle.dc_clients.proofs.StreamSteps.{found_of, missing_of, down_at, down_none}
use Rattle.dc_clients.proofs.clients.Clients.hear_closing.Goals as goal

pub returns-in-Some-clause-step : goal.returns-in-Some-clause-step
returns-in-Some-clause-step g c =
    let m = machine_of g.S.Store.cache c.args.self.now in
    let found = found_of c.args.self.now.connections c.find.result c.event.result.id c.args.inbox.now.id c.in-Some.i c.find.ensures.found (ap (λ (e : Event). e.id) c.event.ensures.event) c.in-Some.is in
    took_as g.O.Effects.acted g.S.Store.cache _ _ (down_at (connection c.args.inbox.now.id m) (connection_at c.args.self.now.connections c.in-Some.i) m found) c.close.ensures.step

pub returns-in_default-clause-step : goal.returns-in_default-clause-step
returns-in_default-clause-step g c =
    let m = machine_of g.S.Store.cache c.args.self.now in
    let missing = missing_of c.args.self.now.connections c.find.result c.event.result.id c.args.inbox.now.id c.find.ensures.found (ap (λ (e : Event). e.id) c.event.ensures.event) c.in_default.is in
    took_as g.O.Effects.acted g.S.Store.cache _ _ (down_none (connection c.args.inbox.now.id m) m missing) (took_nothing g.O.Effects.acted g.S.Store.cache g.met.O.Effects.acted_none c.args.out.now c.args.self.now)
