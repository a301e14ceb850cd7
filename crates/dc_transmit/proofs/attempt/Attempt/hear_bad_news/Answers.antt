use Rattle.std.proofs.Common.{◌∙◌, sym}
use Rattle.dc_transmit.specs.Attempts.{attempt_of, occasion}
use Rattle.dc_transmit.proofs.CaseLemmas.{bad_patient, bad_other}
use Rattle.dc_transmit.proofs.StepLemmas.{did_as, did_nothing, patient_is}
use Rattle.dc_transmit.proofs.attempt.Attempt.hear_bad_news.Goals as goal

pub returns-then-is_patient : goal.returns-then-is_patient
returns-then-is_patient g c =
    did_nothing g.O.Effects.acted g.met.O.Effects.acted_none _ _ c.args.self.now c.args.links.now
    (bad_patient (attempt_of c.args.self.now) (occasion c.args.now c.args.draws.now c.args.links.now) (patient_is c.args.self.now ∙ (sym c.is_patient.ensures ∙ c.if-is_patient.true)))

pub returns-else-is_patient : goal.returns-else-is_patient
returns-else-is_patient g c =
    did_as (bad_other (attempt_of c.args.self.now) (occasion c.args.now c.args.draws.now c.args.links.now) (patient_is c.args.self.now ∙ (sym c.is_patient.ensures ∙ c.if-is_patient.false))) c.try_next.ensures
