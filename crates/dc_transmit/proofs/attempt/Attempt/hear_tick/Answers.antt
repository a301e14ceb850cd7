use Rattle.dc_transmit.specs.Attempts.{attempt_of, occasion}
use Rattle.dc_transmit.proofs.CaseLemmas.{tick_early, tick_due}
use Rattle.dc_transmit.proofs.StepLemmas.{did_as, did_nothing}
use Rattle.dc_transmit.proofs.attempt.Attempt.hear_tick.Goals as goal

pub returns-then-now-self : goal.returns-then-now-self
returns-then-now-self g c =
    did_nothing g.O.Effects.acted g.met.O.Effects.acted_none _ _ c.args.self.now c.args.links.now
    (tick_early (attempt_of c.args.self.now) (occasion c.args.now c.args.draws.now c.args.links.now) c.if-now-self.true)

pub returns : goal.returns
returns g c = did_as (tick_due (attempt_of c.args.self.now) (occasion c.args.now c.args.draws.now c.args.links.now) c.if-now-self.false) c.try_next.ensures
