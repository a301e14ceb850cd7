use Rattle.std.proofs.Common.{◌∙◌, sym}
use Rattle.dc_packet.specs.Question.{question_read}
use Rattle.dc_transmit.specs.Attempts.{attempt_of}
use Rattle.dc_transmit.proofs.RelevanceLemmas.{asks_other, asks_kind, asks_other_kind}
use Rattle.dc_transmit.proofs.attempt.Attempt.asks_for.Goals as goal

pub returns-then-question-self : goal.returns-then-question-self
returns-then-question-self c =
    asks_kind (attempt_of c.args.self.now) (question_read c.args.question.now) (sym c.same.ensures ∙ c.if-same.true) c.if-question-self.true

pub returns-else-question-self : goal.returns-else-question-self
returns-else-question-self c =
    asks_other_kind (attempt_of c.args.self.now) (question_read c.args.question.now) (sym c.same.ensures ∙ c.if-same.true) c.if-question-self.false

pub returns-else-same : goal.returns-else-same
returns-else-same c = asks_other (attempt_of c.args.self.now) (question_read c.args.question.now) (sym c.same.ensures ∙ c.if-same.false)
