use Rattle.std.proofs.Common.{refl, subst, []}
use Rattle.dc_model.specs.Message.{Message}
use Rattle.dc_model.specs.Marks as marks
use Rattle.dc_model.specs.Marks.{Marks}
use Rattle.dc_model.specs.Puts.{all_put}
use Rattle.dc_packet.specs.Rows.{message_in}
use Rattle.dc_marks.specs.Places.{record_in}
use Rattle.dc_desk.specs.View.{setting_at, at}
use Rattle.dc_machine.specs.Turn.{Setting, State, class_row}
use Rattle.dc_heard.specs.Accepted.{accepted_of}
use Rattle.dc_heard.specs.Said.{marks_found}
use Rattle.dc_heard.specs.Quiet.{Leads}
use Rattle.dc_heard.proofs.Taking.{took_leads}
use Rattle.dc_heard.proofs.follow.follow.Goals as goal

pub returns-in-Alias : goal.returns-in-Alias
unfolding all_put
returns-in-Alias g c =
    let said : Message = message_in c.args.answer.packet.now in
    let k : Marks = marks_found said c.args.found.now in
    let x : Setting = setting_at c.args.desk.now c.args.moment in
    let s : State = at g.S.Store.cache c.args.query.now c.args.desk.now in
    rw c.in-Alias.is
    (took_leads _ _ _ (class_row (marks.renames (record_in said c.in-Alias.i)) k said (accepted_of c.args.answer) x s) _ _ _ _ _ _ _ _ [] [] refl (g.met.O.Effects.acted_none _) refl refl refl refl
    (subst (λ (m : Message). Leads (class_row (marks.renames (record_in m c.in-Alias.i)) k m (accepted_of c.args.answer) x s) s.query c.args.desk.now.reply c.alias.result) c.said.ensures
    (c.alias.ensures k (accepted_of c.args.answer) x s c.args.desk.now.reply)))
