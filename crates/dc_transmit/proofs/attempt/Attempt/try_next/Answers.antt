use Rattle.dc_transmit.specs.Attempts.{attempt_of, occasion}
use Rattle.dc_transmit.proofs.StepLemmas.{did_as, next_is}
use Rattle.dc_transmit.proofs.attempt.Attempt.try_next.Goals as goal

pub returns : goal.returns
returns g c =
    did_as (next_is c.next-next.result c.args.self.now.asked.servers (attempt_of c.args.self.now) (occasion c.args.now c.args.draws.now c.args.links.now)
    c.next-next.ensures.tries c.next-next.ensures.transport) c.go_on.ensures
