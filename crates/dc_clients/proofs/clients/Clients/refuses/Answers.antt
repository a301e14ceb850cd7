use Rattle.std.proofs.Common.{ap}
use Rattle.dc_model.specs.Event.{Event}
use Rattle.dc_clients.specs.View.{input_of}
use Rattle.dc_clients.proofs.RequestLemmas.{refuses_port, refuses_addr}
use Rattle.dc_clients.proofs.clients.Clients.refuses.Goals as goal

pub returns-then-is_privileged : goal.returns-then-is_privileged
returns-then-is_privileged g c draws =
    refuses_port (input_of c.args.self.now c.args.inbox.now draws) _ _ (ap (λ (x : Event). x.port) c.event-event.ensures.event) c.is_privileged.ensures c.if-is_privileged.true

pub returns-else-is_privileged : goal.returns-else-is_privileged
returns-else-is_privileged g c draws =
    refuses_addr (input_of c.args.self.now c.args.inbox.now draws) _ _ _ _ (ap (λ (x : Event). x.port) c.event-event.ensures.event) (ap (λ (x : Event). x.addr) c.event-event.ensures.event) c.is_privileged.ensures c.if-is_privileged.false c.allows.ensures
