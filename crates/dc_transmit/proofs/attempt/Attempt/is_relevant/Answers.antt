use Rattle.std.proofs.Common.{◌∙◌, sym, Some}
use Rattle.dc_packet.specs.Question.{question_read}
use Rattle.dc_transmit.specs.Attempts.{attempt_of}
use Rattle.dc_transmit.proofs.RelevanceLemmas.{relevant_short, relevant_other, relevant_asked, relevant_none}
use Rattle.dc_transmit.proofs.attempt.Attempt.is_relevant.Goals as goal

pub returns-then-packet-lt12-clause-relevant : goal.returns-then-packet-lt12-clause-relevant
returns-then-packet-lt12-clause-relevant c = sym (relevant_short (attempt_of c.args.self.now) c.args.packet.now c.if-packet-lt12.true)

pub returns-then-id-self-clause-relevant : goal.returns-then-id-self-clause-relevant
returns-then-id-self-clause-relevant c = sym (relevant_other (attempt_of c.args.self.now) c.args.packet.now c.u16_at-id.result c.u16_at-id.ensures c.if-id-self.true)

pub returns-in-None-clause-relevant : goal.returns-in-None-clause-relevant
returns-in-None-clause-relevant c =
    relevant_none (attempt_of c.args.self.now) c.args.packet.now c.u16_at-id.result c.if-packet-lt12.false c.u16_at-id.ensures c.if-id-self.false c.in-None.ensures.question

pub returns-in-Some-clause-relevant : goal.returns-in-Some-clause-relevant
returns-in-Some-clause-relevant c =
    c.asks_for.ensures
    ∙ sym (relevant_asked (attempt_of c.args.self.now) c.args.packet.now c.u16_at-id.result (Some (question_read c.in-Some.question))
    c.if-packet-lt12.false c.u16_at-id.ensures c.if-id-self.false c.in-Some.ensures.question)
