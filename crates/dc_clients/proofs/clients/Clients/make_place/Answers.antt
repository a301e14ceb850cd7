use Rattle.dc_clients.specs.View.{machine_of}
use Rattle.dc_clients.proofs.TookLemmas.{took_nothing, took_as}
use Rattle.dc_clients.proofs.StreamSteps.{place_made, place_there}
use Rattle.dc_clients.proofs.clients.Clients.make_place.Goals as goal

pub returns-then-len-ge-MOST_CONNECTIONS-clause-step : goal.returns-then-len-ge-MOST_CONNECTIONS-clause-step
returns-then-len-ge-MOST_CONNECTIONS-clause-step g c =
    let m = machine_of g.S.Store.cache c.args.self.now in
    took_as g.O.Effects.acted g.S.Store.cache _ _ (place_made m c.len.result c.len.ensures.len c.if-len-ge-MOST_CONNECTIONS.true) c.close.ensures.step

pub returns-else-len-ge-MOST_CONNECTIONS-clause-step : goal.returns-else-len-ge-MOST_CONNECTIONS-clause-step
returns-else-len-ge-MOST_CONNECTIONS-clause-step g c =
    let m = machine_of g.S.Store.cache c.args.self.now in
    took_as g.O.Effects.acted g.S.Store.cache _ _ (place_there m c.len.result c.len.ensures.len c.if-len-ge-MOST_CONNECTIONS.false)
    (took_nothing g.O.Effects.acted g.S.Store.cache g.met.O.Effects.acted_none c.args.out.now c.args.self.now)
