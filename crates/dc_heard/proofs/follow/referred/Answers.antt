use Rattle.std.proofs.Common.{◌≡◌, ap, ◌∙◌, subst, ◌++◌, ◌∷◌, []}
use Rattle.dc_model.specs.Cache.{Cache}
use Rattle.dc_model.specs.Name.{Name}
use Rattle.dc_model.specs.Message.{Message}
use Rattle.dc_model.specs.Marks.{Marks}
use Rattle.dc_packet.specs.Rows.{message_in}
use Rattle.dc_marks.specs.Places.{record_in}
use Rattle.dc_frames.specs.View.{query_of}
use Rattle.dc_desk.specs.View.{setting_of, setting_at, at}
use Rattle.dc_machine.specs.Turn.{Setting, State, refers_row, nodata_lines, stats}
use Rattle.dc_heard.specs.Accepted.{accepted_of}
use Rattle.dc_heard.specs.Said.{marks_found}
use Rattle.dc_heard.specs.Quiet.{Leads}
use Rattle.dc_heard.proofs.Taking.{took_leads}
use Rattle.dc_heard.proofs.Telling.{told_refers}
use Rattle.dc_heard.proofs.follow.referred.Goals as goal

pub returns : goal.returns
unfolding setting_of
returns g c =
    let said : Message = message_in c.args.answer.packet.now in
    let zone : Name = (record_in said c.args.i).owner in
    let k : Marks = marks_found said c.args.found.now in
    let x : Setting = setting_at c.args.desk.now c.args.moment in
    let s : State = at g.S.Store.cache c.args.query.now c.args.desk.now in
    let owner : c.owner.result ≡ zone = c.owner.ensures ∙ ap (λ (m : Message). (record_in m c.args.i).owner) c.said-message.ensures in
    took_leads _ _ _ (refers_row zone said s) _ _ _ _ _ _ _ _ _ _ (told_refers zone k said (accepted_of c.args.answer) x s)
    (subst (λ (cache : Cache). g.O.Effects.acted c.args.out.now (nodata_lines x k (accepted_of c.args.answer) s ++ stats x cache ∷ []) c.tell.new.out) c.tell.ensures.store c.tell.ensures.acts)
    c.tell.ensures.store (ap (λ d. d.link) c.tell.ensures.rest) (ap (λ d. setting_at d c.args.moment) c.tell.ensures.rest) (ap (λ d. d.counts) c.tell.ensures.rest)
    (subst (λ (n : Name). Leads (refers_row n said s) (query_of c.refers.new.query) c.tell.new.desk.reply c.refers.result) owner
    (subst (λ (m : Message). Leads (refers_row c.owner.result m s) (query_of c.refers.new.query) c.tell.new.desk.reply c.refers.result) c.said-message.ensures
    (c.refers.ensures (g.S.Store.cache c.args.desk.now.store) c.args.desk.now.link c.tell.new.desk.reply)))
