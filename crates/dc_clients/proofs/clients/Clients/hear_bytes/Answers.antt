use Rattle.std.proofs.Common.{ap, length}
use Rattle.dc_model.specs.Event.{Event}
use Rattle.dc_machine.specs.Machine.{connection}
use Rattle.dc_connections.specs.Places.{connection_at}
use Rattle.dc_clients.specs.View.{machine_of, input_of}
use Rattle.dc_clients.proofs.TookLemmas.{took_nothing, took_as}
use Rattle.dc_clients.proofs.StreamSteps.{found_of, missing_of, bytes_none, bytes_long, bytes_ask, bytes_wait, took_behind, took_changed}
use Rattle.dc_clients.proofs.clients.Clients.hear_bytes.Goals as goal

pub returns-in_default-clause-step : goal.returns-in_default-clause-step
returns-in_default-clause-step g c =
    let m = machine_of g.S.Store.cache c.args.self.now in
    let i = input_of c.args.self.now c.args.inbox.now c.args.draws.now in
    let missing = missing_of c.args.self.now.connections c.find.result c.event.result.id c.args.inbox.now.id c.find.ensures.found (ap (λ (e : Event). e.id) c.event.ensures.event) c.in_default.is in
    took_as g.O.Effects.acted g.S.Store.cache _ _ (bytes_none (connection c.args.inbox.now.id m) i m missing)
    (took_nothing g.O.Effects.acted g.S.Store.cache g.met.O.Effects.acted_none c.args.out.now c.args.self.now)

pub returns-then-gathered_len-bytes-gt-LONGEST_GATHERED-clause-step : goal.returns-then-gathered_len-bytes-gt-LONGEST_GATHERED-clause-step
returns-then-gathered_len-bytes-gt-LONGEST_GATHERED-clause-step g c =
    let m = machine_of g.S.Store.cache c.args.self.now in
    let i = input_of c.args.self.now c.args.inbox.now c.args.draws.now in
    let found = found_of c.args.self.now.connections c.find.result c.event.result.id c.args.inbox.now.id c.in-Some.i c.find.ensures.found (ap (λ (e : Event). e.id) c.event.ensures.event) c.in-Some.is in
    took_as g.O.Effects.acted g.S.Store.cache _ _
    (bytes_long (connection c.args.inbox.now.id m) (connection_at c.args.self.now.connections c.in-Some.i) i m c.gathered_len.result (length c.bytes-bytes.result.now)
    found c.gathered_len.ensures.len (ap length c.bytes-bytes.ensures.bytes) c.if-gathered_len-bytes-gt-LONGEST_GATHERED.true)
    c.close.ensures.step

pub returns-then-is_ready-clause-step : goal.returns-then-is_ready-clause-step
returns-then-is_ready-clause-step g c =
    let m = machine_of g.S.Store.cache c.args.self.now in
    let i = input_of c.args.self.now c.args.inbox.now c.args.draws.now in
    let found = found_of c.args.self.now.connections c.find.result c.event.result.id c.args.inbox.now.id c.in-Some.i c.find.ensures.found (ap (λ (e : Event). e.id) c.event.ensures.event) c.in-Some.is in
    took_behind g.O.Effects.acted g.S.Store.cache c.args.self.now c.append.new.self
    (bytes_ask (connection c.args.inbox.now.id m) (connection_at c.args.self.now.connections c.in-Some.i) (connection_at c.append.new.self c.in-Some.i) c.append.new.self c.gathered_len.result c.bytes-bytes.result.now i m c.is_ready.result
    (record {
      found = found;
      count = c.gathered_len.ensures.len;
      bytes_are = c.bytes-bytes.ensures.bytes;
      few = c.if-gathered_len-bytes-gt-LONGEST_GATHERED.false;
      connections = c.append.ensures.connections;
      there = c.append.ensures.at;
    })
    c.is_ready.ensures.ready c.if-is_ready.true)
    c.ask.ensures.step

pub returns-else-is_ready-clause-step : goal.returns-else-is_ready-clause-step
returns-else-is_ready-clause-step g c =
    let m = machine_of g.S.Store.cache c.args.self.now in
    let i = input_of c.args.self.now c.args.inbox.now c.args.draws.now in
    let found = found_of c.args.self.now.connections c.find.result c.event.result.id c.args.inbox.now.id c.in-Some.i c.find.ensures.found (ap (λ (e : Event). e.id) c.event.ensures.event) c.in-Some.is in
    took_as g.O.Effects.acted g.S.Store.cache _ _
    (bytes_wait (connection c.args.inbox.now.id m) (connection_at c.args.self.now.connections c.in-Some.i) (connection_at c.append.new.self c.in-Some.i) c.append.new.self c.gathered_len.result c.bytes-bytes.result.now i m c.is_ready.result
    (record {
      found = found;
      count = c.gathered_len.ensures.len;
      bytes_are = c.bytes-bytes.ensures.bytes;
      few = c.if-gathered_len-bytes-gt-LONGEST_GATHERED.false;
      connections = c.append.ensures.connections;
      there = c.append.ensures.at;
    })
    c.is_ready.ensures.ready c.if-is_ready.false)
    (took_changed g.O.Effects.acted g.S.Store.cache g.met.O.Effects.acted_none c.args.out.now c.args.self.now c.append.new.self)
