use Rattle.std.proofs.Common.{◌∙◌}
use Rattle.dc_packet.specs.Question.{asked}
use Rattle.dc_active.specs.View.{client_of}
use Rattle.dc_clients.proofs.RequestLemmas.{took_accepted}
use Rattle.dc_clients.proofs.clients.Clients.accept.Goals as goal

pub returns-clause-step : goal.returns-clause-step
returns-clause-step g c =
    took_accepted g.O.Effects.acted g.S.Store.cache g.met.O.Effects.acted_both c.args.inbox.now c.args.draws.now (client_of c.args.client) c.args.addr c.args.port (asked c.args.request.now) c.text.result.now
    (c.text.ensures.bytes ∙ c.line_query.ensures) c.line.ensures c.begin.ensures.step
