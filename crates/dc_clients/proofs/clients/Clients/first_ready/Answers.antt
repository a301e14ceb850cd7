use Rattle.std.proofs.Common.{sym, ◌<◌, ◌≤◌, length, arith}
use Rattle.dc_machine.specs.Machine.{is_ready}
use Rattle.dc_connections.proofs.PlaceLemmas.{passed_by}
use Rattle.dc_clients.specs.View.{machine_of}
use Rattle.dc_clients.proofs.ClockLemmas.{ready_found, ready_none}
use Rattle.dc_clients.proofs.clients.Clients.first_ready.Goals as goal

pub returns-then-is_ready-clause-ready : goal.returns-then-is_ready-clause-ready
returns-then-is_ready-clause-ready g c =
    let within : c.loop-i.i < length c.args.self.now.connections = omega arith in
    ready_found (machine_of g.S.Store.cache c.args.self.now) c.loop-i.i within (sym c.if-is_ready.ensures.ready) c.loop-i.invariant

pub loop-i-preserved : goal.loop-i-preserved
loop-i-preserved g c =
    let within : c.loop-i.i < length c.args.self.now.connections = omega arith in
    passed_by (is_ready (machine_of g.S.Store.cache c.args.self.now)) c.args.self.now.connections c.loop-i.i within (sym c.if-is_ready.ensures.ready) c.loop-i.invariant

pub returns-clause-ready : goal.returns-clause-ready
returns-clause-ready g c =
    let past : length c.args.self.now.connections ≤ c.loop-i.i = omega arith in
    ready_none (machine_of g.S.Store.cache c.args.self.now) c.loop-i.i past c.loop-i.invariant
