use Rattle.std.proofs.Common.{ap, sym, subst, ◌++◌, ◌∷◌, []}
use Rattle.dc_model.specs.Cache.{Cache}
use Rattle.dc_model.specs.Message.{Message}
use Rattle.dc_model.specs.Marks.{Marks}
use Rattle.dc_packet.specs.Rows.{message_in}
use Rattle.dc_frames.specs.View.{query_of}
use Rattle.dc_desk.specs.View.{setting_of, setting_at, at}
use Rattle.dc_machine.specs.Turn.{Setting, State, answers_row, nodata_lines, stats}
use Rattle.dc_heard.specs.Accepted.{accepted_of}
use Rattle.dc_heard.specs.Said.{marks_found}
use Rattle.dc_heard.specs.Quiet.{Leads, AreFormed}
use Rattle.dc_heard.proofs.Hearing.{formed_in}
use Rattle.dc_heard.proofs.Taking.{took_leads}
use Rattle.dc_heard.proofs.Telling.{told_answers}
use Rattle.dc_heard.proofs.follow.answered.Goals as goal

pub answers-requires-clause-formed : goal.answers-requires-clause-formed
answers-requires-clause-formed g c = subst (λ (m : Message). AreFormed m) (sym c.said-message.ensures) (formed_in c.args.answer.packet.now c.args.desk.now.table c.requires.rows)

pub returns : goal.returns
unfolding setting_of
returns g c =
    let said : Message = message_in c.args.answer.packet.now in
    let k : Marks = marks_found said c.args.found.now in
    let x : Setting = setting_at c.args.desk.now c.args.moment in
    let s : State = at g.S.Store.cache c.args.query.now c.args.desk.now in
    took_leads _ _ _ (answers_row said s) _ _ _ _ _ _ _ _ _ _ (told_answers k said (accepted_of c.args.answer) x s)
    (subst (λ (cache : Cache). g.O.Effects.acted c.args.out.now (nodata_lines x k (accepted_of c.args.answer) s ++ stats x cache ∷ []) c.tell.new.out) c.tell.ensures.store c.tell.ensures.acts)
    c.tell.ensures.store (ap (λ d. d.link) c.tell.ensures.rest) (ap (λ d. setting_at d c.args.moment) c.tell.ensures.rest) (ap (λ d. d.counts) c.tell.ensures.rest)
    (subst (λ (m : Message). Leads (answers_row m s) (query_of c.answers.new.query) c.answers.new.reply c.answers.result) c.said-message.ensures
    (c.answers.ensures (g.S.Store.cache c.args.desk.now.store) c.args.desk.now.link))
