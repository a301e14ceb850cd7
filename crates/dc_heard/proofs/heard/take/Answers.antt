use Rattle.std.proofs.Common.{◌≡◌, ℕ, ap, sym, ◌∙◌, subst}
use Rattle.dc_model.specs.Name.{Name}
use Rattle.dc_model.specs.Message.{Message, message_of, rcode}
use Rattle.dc_model.specs.Marks as marks
use Rattle.dc_model.specs.Marks.{Marks, marks_of, class_of}
use Rattle.dc_packet.specs.Rows.{message_in}
use Rattle.dc_desk.specs.View.{setting_of, setting_at, at}
use Rattle.dc_machine.specs.Query.{top_of, name_of, wanted_of}
use Rattle.dc_machine.specs.Turn.{Setting, State, class_row}
use Rattle.dc_heard.specs.Accepted.{accepted_of}
use Rattle.dc_heard.specs.Said.{class_said, marks_found}
use Rattle.dc_heard.proofs.Saying.{found_is}
use Rattle.dc_heard.proofs.Hearing.{said_is, soa_there, message_is}
use Rattle.dc_heard.proofs.Taking.{took_behind}
use Rattle.dc_heard.proofs.heard.take.Goals as goal

pub follow-requires-clause-soa : goal.follow-requires-clause-soa
follow-requires-clause-soa g c =
    let said : Message = message_in c.args.answer.packet.now in
    soa_there c.args.answer.packet.now c.args.desk.now.table c.found-found.result (marks_of c.name.result.now c.wanted.result said) c.requires.rows c.found-found.ensures

pub returns : goal.returns
unfolding setting_of
returns g c =
    let p = c.args.answer.packet.now in
    let said : Message = message_in p in
    let f = c.found-found.result in
    let k : Marks = marks_found said f in
    let class : marks.Class = class_said said c.said_by-says.result in
    let x : Setting = setting_at c.args.desk.now c.args.moment in
    let s : State = at g.S.Store.cache c.args.query.now c.args.desk.now in
    let own : marks_of (name_of s.query) (wanted_of s.query) said ≡ k
    = ap (λ (n : Name). marks_of n (wanted_of s.query) said) (sym c.name.ensures) ∙ ap (λ (n : ℕ). marks_of c.name.result.now n said) (sym c.wanted.ensures)
    ∙ found_is said f (marks_of c.name.result.now c.wanted.result said) c.found-found.ensures in
    let named : class ≡ class_of (top_of s.query).control (rcode said) k
    = subst (λ (m : Message). class_said m c.said_by-says.result ≡ class_of c.control.result.now (rcode m) (marks_found m f)) c.said.ensures c.said_by-says.ensures.class
    ∙ ap (λ (n : Name). class_of n (rcode said) k) c.control.ensures in
    took_behind _ _ _ (class_row class k said (accepted_of c.args.answer)) _ _ _ _ _ _ _ _ _ _ _ _ g.met.O.Effects.acted_both
    (message_is (message_of p) said (accepted_of c.args.answer) x s k class (said_is p c.args.desk.now.table c.requires.rows) own named)
    c.keep.ensures.acts c.keep.ensures.store c.keep.ensures.rest c.follow.ensures
