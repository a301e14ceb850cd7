use Rattle.dc_connections.specs.Places.{connection_at}
use Rattle.dc_clients.specs.View.{machine_of}
use Rattle.dc_clients.proofs.ClockLemmas.{idle_whole, idle_part}
use Rattle.dc_clients.proofs.clients.Clients.is_idle.Goals as goal

pub returns-then-not-is_whole : goal.returns-then-not-is_whole
returns-then-not-is_whole g c =
    idle_part (machine_of g.S.Store.cache c.args.self.now) (connection_at c.args.self.now.connections c.args.i) c.number.result c.is_whole.result c.is_busy.result
    c.is_whole.ensures c.if-not-is_whole.true c.number.ensures c.is_busy.ensures

pub returns-else-not-is_whole : goal.returns-else-not-is_whole
returns-else-not-is_whole g c =
    idle_whole (machine_of g.S.Store.cache c.args.self.now) (connection_at c.args.self.now.connections c.args.i) c.is_whole.result c.is_whole.ensures c.if-not-is_whole.false
