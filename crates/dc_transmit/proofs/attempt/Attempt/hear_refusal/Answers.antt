use Rattle.dc_transmit.specs.Attempts.{attempt_of, occasion}
use Rattle.dc_transmit.proofs.CaseLemmas.{refusal_tenth, refusal_more}
use Rattle.dc_transmit.proofs.StepLemmas.{did_as, did_refuse, did_send}
use Rattle.dc_transmit.proofs.attempt.Attempt.hear_refusal.Goals as goal

pub returns-then-self-ge-MOST_REFUSALS : goal.returns-then-self-ge-MOST_REFUSALS
returns-then-self-ge-MOST_REFUSALS g c =
    did_as (refusal_tenth (attempt_of c.args.self.now) (occasion c.args.now c.args.draws.now c.args.links.now) c.if-self-ge-MOST_REFUSALS.true)
    (did_refuse g.O.Effects.acted _ _ c.args.self.now c.args.links.now c.link_close.ensures)

pub returns : goal.returns
returns g c =
    did_as (refusal_more (attempt_of c.args.self.now) (occasion c.args.now c.args.draws.now c.args.links.now) c.if-self-ge-MOST_REFUSALS.false)
    (did_send g.O.Effects.acted _ _ _ (occasion c.args.now c.args.draws.now c.args.links.now) _ _ c.open.ensures.attempt c.open.ensures.links c.open.ensures.acts)
