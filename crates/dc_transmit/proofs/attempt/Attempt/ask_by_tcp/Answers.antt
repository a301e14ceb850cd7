use Rattle.dc_transmit.specs.Attempts.{attempt_of, occasion}
use Rattle.dc_transmit.proofs.StepLemmas.{did_as, tcp_is}
use Rattle.dc_transmit.proofs.attempt.Attempt.ask_by_tcp.Goals as goal

pub returns : goal.returns
returns g c =
    did_as (tcp_is c.first-first.result (attempt_of c.args.self.now) (occasion c.args.now c.args.draws.now c.args.links.now)
    c.first-first.ensures.tries c.first-first.ensures.round) c.go_on.ensures
