use Rattle.dc_connections.specs.Places.{connection_at}
use Rattle.dc_clients.specs.View.{machine_of}
use Rattle.dc_clients.proofs.StreamSteps.{ready_free, ready_not}
use Rattle.dc_clients.proofs.clients.Clients.is_ready.Goals as goal

pub returns-then-is_whole-clause-ready : goal.returns-then-is_whole-clause-ready
returns-then-is_whole-clause-ready g c =
    ready_free (machine_of g.S.Store.cache c.args.self.now) (connection_at c.args.self.now.connections c.args.i) c.number.result c.is_busy.result c.is_whole.result
    c.is_whole.ensures c.if-is_whole.true c.number.ensures c.is_busy.ensures

pub returns-else-is_whole-clause-ready : goal.returns-else-is_whole-clause-ready
returns-else-is_whole-clause-ready g c =
    ready_not (machine_of g.S.Store.cache c.args.self.now) (connection_at c.args.self.now.connections c.args.i) c.is_whole.result c.is_whole.ensures c.if-is_whole.false
