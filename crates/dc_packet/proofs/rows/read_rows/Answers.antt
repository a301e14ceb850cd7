use Rattle.std.proofs.Common.{sym}
use Rattle.dc_model.specs.Message as model
use Rattle.dc_packet.specs.Question.{question_read}
use Rattle.dc_packet.proofs.RowLemmas.{none_before, rows_whole, no_question, no_answers, no_authority, no_additional}
use Rattle.dc_packet.proofs.rows.read_rows.Goals as goal

pub returns-in_err-question-clause-read : goal.returns-in_err-question-clause-read
returns-in_err-question-clause-read c = rw c.from_residual.ensures (no_question c.args.packet.now (sym c.in_err-question.ensures.question))

pub returns-in_err-answers-clause-read : goal.returns-in_err-answers-clause-read
returns-in_err-answers-clause-read c =
    rw c.from_residual-in_err-answers.ensures (no_answers c.args.packet.now (question_read c.in_ok-question.question) _ (sym c.in_ok-question.ensures.question) c.u16_at.ensures c.in_err-answers.ensures.read)

pub returns-in_err-servers-clause-read : goal.returns-in_err-servers-clause-read
returns-in_err-servers-clause-read c =
    let p = c.args.packet.now in
    let first = none_before p model.answer _ _ _ _ _ c.clear.ensures.items c.in_ok-answers.ensures.read in
    rw c.from_residual-in_err-servers.ensures
    (no_authority p (question_read c.in_ok-question.question) _ _ _ _ (sym c.in_ok-question.ensures.question) c.u16_at.ensures c.u16_at-2.ensures first c.in_err-servers.ensures.read)

pub returns-in_err-read_section-clause-read : goal.returns-in_err-read_section-clause-read
returns-in_err-read_section-clause-read c =
    let p = c.args.packet.now in
    let first = none_before p model.answer _ _ _ _ _ c.clear.ensures.items c.in_ok-answers.ensures.read in
    rw c.from_residual-in_err-read_section.ensures
    (no_additional p (question_read c.in_ok-question.question) _ _ _ _ _ _ _ (sym c.in_ok-question.ensures.question) c.u16_at.ensures c.u16_at-2.ensures c.u16_at-3.ensures
    first c.in_ok-servers.ensures.read c.in_err-read_section.ensures.read)

pub returns-clause-read : goal.returns-clause-read
returns-clause-read c =
    let p = c.args.packet.now in
    let first = none_before p model.answer _ _ _ _ _ c.clear.ensures.items c.in_ok-answers.ensures.read in
    rows_whole p (question_read c.in_ok-question.question) _ _ _ _ _ _ _ _ _ (sym c.in_ok-question.ensures.question) c.u16_at.ensures c.u16_at-2.ensures c.u16_at-3.ensures
    first c.in_ok-servers.ensures.read c.in_ok-read_section.ensures.read
