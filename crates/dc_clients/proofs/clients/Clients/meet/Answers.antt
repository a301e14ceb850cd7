use Rattle.dc_clients.specs.View.{input_of}
use Rattle.dc_clients.proofs.ClockLemmas.{met_query, met_connection}
use Rattle.dc_clients.proofs.clients.Clients.meet.Goals as goal

pub returns-in-Query-clause-step : goal.returns-in-Query-clause-step
returns-in-Query-clause-step g c =
    met_query g.O.Effects.acted g.S.Store.cache (input_of c.args.self.now c.args.inbox.now c.args.draws.now) c.args.due c.in-Query.i c.in-Query.is c.requires.sound.rising c.give.ensures.step

pub returns-in-Connection-clause-step : goal.returns-in-Connection-clause-step
returns-in-Connection-clause-step g c =
    met_connection g.O.Effects.acted g.S.Store.cache (input_of c.args.self.now c.args.inbox.now c.args.draws.now) c.args.due c.in-Connection.i c.in-Connection.is c.close.ensures.step
