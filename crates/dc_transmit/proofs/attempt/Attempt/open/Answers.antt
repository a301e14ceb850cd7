use Rattle.std.proofs.Common.{ap}
use Rattle.dc_transmit.specs.Attempts.{attempt_of, occasion}
use Rattle.dc_transmit.specs.Gathered.{Gathered}
use Rattle.dc_transmit.proofs.StepLemmas.{linked_is}
use Rattle.dc_transmit.proofs.attempt.Attempt.open.Goals as goal

pub returns-clause-attempt : goal.returns-clause-attempt
returns-clause-attempt g c =
    linked_is (attempt_of c.args.self.now) (occasion c.args.now c.args.draws.now c.args.links.now) c.id_of-id.result c.port_of-port.result c.wait-wait.result
    _ c.id_of-id.ensures c.port_of-port.ensures c.wait-wait.ensures.wait (ap (λ (x : Gathered). x.bytes) c.clear.ensures)
