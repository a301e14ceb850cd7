use Rattle.std.proofs.Common.{sym, ap, ◌∙◌, option_map}
use Rattle.dc_packet.specs.Question.{asked}
use Rattle.dc_connections.specs.Places.{connection_at}
use Rattle.dc_clients.specs.View.{machine_of, input_of}
use Rattle.dc_clients.proofs.StreamSteps.{asks, asks_nothing, took_behind}
use Rattle.dc_clients.proofs.clients.Clients.ask.Goals as goal

pub returns-in-Some-clause-step : goal.returns-in-Some-clause-step
returns-in-Some-clause-step g c =
    let m = machine_of g.S.Store.cache c.args.self.now in
    let i = input_of c.args.self.now c.args.inbox.now c.args.draws.now in
    let read = sym (ap (option_map asked) c.in-Some.is) ∙ c.read_request-request.ensures.request in
    let e = asks i (connection_at c.args.self.now.connections c.args.i) m c.take_off.new.self (asked c.in-Some.request) c.message.result.now c.number-number.result c.addr-addr.result c.port-port.result
    c.take_off.ensures.connections c.message.ensures.message read c.number-number.ensures c.addr-addr.ensures c.port-port.ensures in
    took_behind g.O.Effects.acted g.S.Store.cache c.args.self.now c.take_off.new.self e c.accept.ensures.step

pub returns-in-None-clause-step : goal.returns-in-None-clause-step
returns-in-None-clause-step g c =
    let m = machine_of g.S.Store.cache c.args.self.now in
    let i = input_of c.args.self.now c.args.inbox.now c.args.draws.now in
    let read = sym (ap (option_map asked) c.in-None.is) ∙ c.read_request-request.ensures.request in
    let e = asks_nothing i (connection_at c.args.self.now.connections c.args.i) (connection_at c.take_off.new.self c.args.i) m c.take_off.new.self c.message.result.now
    c.take_off.ensures.connections c.take_off.ensures.at c.message.ensures.message read in
    took_behind g.O.Effects.acted g.S.Store.cache c.args.self.now c.take_off.new.self e c.close.ensures.step
