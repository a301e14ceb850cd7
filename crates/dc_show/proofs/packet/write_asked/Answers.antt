use Rattle.std.proofs.Common.{◌≡◌, sym, ◌∙◌, ap, Some, option_map}
use Rattle.dc_model.specs.Message as model
use Rattle.dc_lookup.specs.Text.{question_text}
use Rattle.dc_writer.proofs.Faring.{fared_both}
use Rattle.dc_writer.proofs.Writing.{wrote_both, wrote_as}
use Rattle.dc_packet.specs.Question.{question_read}
use Rattle.dc_packet.proofs.RowLemmas.{no_question}
use Rattle.dc_show.proofs.PartLemmas.{question_is}
use Rattle.dc_show.proofs.packet.write_asked.Goals as goal

pub unreachable-requires : goal.unreachable-requires
unreachable-requires g c =
    let none = no_question c.args.packet.now (sym c.question_of.ensures.question ∙ ap (option_map question_read) c.in_default.is) in
    let some = c.requires.message in
    cc

pub returns-clause-wrote : goal.returns-clause-wrote
returns-clause-wrote g c =
    let b = g.met.K.Sink.gained_both in
    let is = question_is c.args.packet.now (question_read c.in-Some.question) c.args.message.now (sym c.question_of.ensures.question ∙ ap (option_map question_read) c.in-Some.is) c.requires.message in
    let question = wrote_as _ _ b (ap (λ (q : model.Question). question_text q.kind q.name) (sym is)) c.write_question.ensures.wrote in
    wrote_both _ _ b (wrote_both _ _ b c.write_header.ensures.wrote c.put.ensures.wrote) question

pub returns-clause-fared : goal.returns-clause-fared
returns-clause-fared g c =
    let b = g.met.K.Sink.gained_both in
    fared_both _ _ _ b _ _ c.write_header.ensures.wrote c.write_header.ensures.fared (fared_both _ _ _ b _ _ c.put.ensures.wrote c.put.ensures.fared c.write_question.ensures.fared)
