use Rattle.std.proofs.Common.{◌≡◌, ap, sym, ◌∙◌, subst, List, option_map}
use Rattle.dc_model.specs.Event.{Action, second}
use Rattle.dc_model.specs.Message.{Message}
use Rattle.dc_model.specs.Marks.{Marks, negative_ttl}
use Rattle.dc_packet.specs.Rows.{message_in}
use Rattle.dc_marks.specs.Places.{record_in}
use Rattle.dc_desk.specs.View.{setting_of, setting_at, at}
use Rattle.dc_machine.specs.Turn.{State}
use Rattle.dc_heard.specs.Accepted.{accepted_of}
use Rattle.dc_heard.specs.Said.{marks_found}
use Rattle.dc_heard.proofs.Telling.{puts_no, lines_no, puts_yes, lines_yes}
use Rattle.dc_heard.proofs.told.remember.Goals as goal

pub returns-then-not-has_no_data-clause-store : goal.returns-then-not-has_no_data-clause-store
returns-then-not-has_no_data-clause-store g c =
    let s : State = at g.S.Store.cache c.args.query.now c.args.desk.now in
    let k : Marks = marks_found (message_in c.args.answer.packet.now) c.args.found.now in
    puts_no (setting_at c.args.desk.now c.args.moment) k s (second c.args.moment.time) (g.S.Store.cache c.args.desk.now.store)
    (sym (c.has_no_data.ensures (message_in c.args.answer.packet.now)) ∙ c.if-not-has_no_data.true)

pub returns-then-not-has_no_data-clause-acts : goal.returns-then-not-has_no_data-clause-acts
returns-then-not-has_no_data-clause-acts g c =
    let s : State = at g.S.Store.cache c.args.query.now c.args.desk.now in
    let k : Marks = marks_found (message_in c.args.answer.packet.now) c.args.found.now in
    subst (λ (xs : List Action). g.O.Effects.acted c.args.out.now xs c.args.out.now)
    (lines_no (setting_at c.args.desk.now c.args.moment) k (accepted_of c.args.answer) s (sym (c.has_no_data.ensures (message_in c.args.answer.packet.now)) ∙ c.if-not-has_no_data.true))
    (g.met.O.Effects.acted_none _)

pub returns-clause-store : goal.returns-clause-store
unfolding setting_of
returns-clause-store g c =
    let s : State = at g.S.Store.cache c.args.query.now c.args.desk.now in
    let k : Marks = marks_found (message_in c.args.answer.packet.now) c.args.found.now in
    let ttl : c.negative_ttl-ttl.result ≡ negative_ttl c.args.desk.now.zones.rule k.soa
    = c.negative_ttl-ttl.ensures ∙ ap (λ r. negative_ttl r (option_map (record_in c.said.result) c.args.found.now.soa)) c.rule.ensures
    ∙ ap (λ (m : Message). negative_ttl c.args.desk.now.zones.rule (option_map (record_in m) c.args.found.now.soa)) c.said.ensures in
    (rw (ttl, c.second.ensures) at c.no_data.ensures.store)
    ∙ puts_yes (setting_at c.args.desk.now c.args.moment) k s (second c.args.moment.time) (g.S.Store.cache c.args.desk.now.store)
    (sym (c.has_no_data.ensures (message_in c.args.answer.packet.now)) ∙ c.if-not-has_no_data.false)

pub returns-clause-acts : goal.returns-clause-acts
unfolding setting_of
returns-clause-acts g c =
    let s : State = at g.S.Store.cache c.args.query.now c.args.desk.now in
    let k : Marks = marks_found (message_in c.args.answer.packet.now) c.args.found.now in
    let ttl : c.negative_ttl-ttl.result ≡ negative_ttl c.args.desk.now.zones.rule k.soa
    = c.negative_ttl-ttl.ensures ∙ ap (λ r. negative_ttl r (option_map (record_in c.said.result) c.args.found.now.soa)) c.rule.ensures
    ∙ ap (λ (m : Message). negative_ttl c.args.desk.now.zones.rule (option_map (record_in m) c.args.found.now.soa)) c.said.ensures in
    subst (λ (xs : List Action). g.O.Effects.acted c.args.out.now xs c.no_data.new.out)
    (lines_yes (setting_at c.args.desk.now c.args.moment) k (accepted_of c.args.answer) s (sym (c.has_no_data.ensures (message_in c.args.answer.packet.now)) ∙ c.if-not-has_no_data.false))
    (rw ttl at c.no_data.ensures.acts)
