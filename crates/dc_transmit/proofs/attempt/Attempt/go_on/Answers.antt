use Rattle.dc_transmit.specs.Attempts.{attempt_of, occasion}
use Rattle.dc_transmit.proofs.StepLemmas.{did_fail, did_open}
use Rattle.dc_transmit.proofs.attempt.Attempt.go_on.Goals as goal

pub returns-in-None : goal.returns-in-None
returns-in-None g c =
    did_fail g.O.Effects.acted _ _ c.args.next c.args.self.now.asked.servers (attempt_of c.args.self.now) (occasion c.args.now c.args.draws.now c.args.links.now)
    c.args.self.now c.in-None.is c.link_close.ensures

pub returns-in-Some : goal.returns-in-Some
returns-in-Some g c =
    did_open g.O.Effects.acted g.met.O.Effects.acted_then _ _ _ c.args.next c.in-Some.course c.args.self.now.asked.servers (attempt_of c.args.self.now)
    (occasion c.args.now c.args.draws.now c.args.links.now) _ _ c.in-Some.is c.open.ensures.attempt c.open.ensures.links c.link_close.ensures c.open.ensures.acts
