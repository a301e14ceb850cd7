use Rattle.std.proofs.Common.{◌≡◌, None, Some, true, false, List, map, refl, ap, subst, ◌∙◌}
use Rattle.dc_model.specs.Message.{Body}
use Rattle.dc_model.specs.Cache.{Hit}
use Rattle.dc_model.specs.Line.{line_cached}
use Rattle.dc_store.specs.Lent.{hit_value}
use Rattle.dc_machine.specs.Turn.{items, reply_of, answer_of}
use Rattle.dc_rules.specs.Refusals.{rule_of}
use Rattle.dc_answer.specs.Replies.{Replies}
use Rattle.dc_frames.specs.View.{query_of}
use Rattle.dc_machine.specs.Query.{name_of}
use Rattle.dc_desk.specs.View.{setting_at, at}
use Rattle.dc_look.proofs.Taking.{took_as, took_reply}
use Rattle.dc_look.proofs.RowLemmas.{known-is, items-are, other-rule, other-not, other-none, other-here}
use Rattle.dc_look.proofs.kinds.other.Goals as goal

pub returns-then-not-is_other : goal.returns-then-not-is_other
returns-then-not-is_other g c = took_as (other-not (setting_at c.args.desk.now c.args.moment) (at g.S.Store.cache c.args.query.now c.args.desk.now) c.wanted-kind.result c.wanted-kind.ensures
    (other-rule c.args.desk.now c.args.moment (rule_of c.rule-rule.result) c.wanted-kind.result false c.rule-rule.ensures c.if-not-is_other.ensures)) c.zone.ensures

pub returns-in_default : goal.returns-in_default
returns-in_default g c = took_as (other-none (setting_at c.args.desk.now c.args.moment) (at g.S.Store.cache c.args.query.now c.args.desk.now) c.wanted-kind.result c.wanted-kind.ensures
    (other-rule c.args.desk.now c.args.moment (rule_of c.rule-rule.result) c.wanted-kind.result true c.rule-rule.ensures c.if-not-is_other.ensures)
    (known-is g.S.Store.cache c.args.query.now c.args.desk.now c.args.moment c.wanted-kind.result c.second.result None c.second.ensures (c.in_default.ensures.hit (name_of (query_of c.args.query.now)) c.requires.key))) c.zone-in_default.ensures

pub returns : goal.returns
returns g c =
    let h : Hit = hit_value c.in-Some.hit in
    let text : c.text.result.now ≡ line_cached c.wanted-kind.result (name_of (query_of c.args.query.now)) = c.text.ensures.bytes ∙ (c.line_cached.ensures ∙ ap (line_cached c.wanted-kind.result) c.name.ensures) in
    let is : c.new-items.result ≡ items (setting_at c.args.desk.now c.args.moment) c.wanted-kind.result h =
    items-are c.args.desk.now c.args.moment (rule_of c.rule-rule.result) c.wanted-kind.result h.ttl h.body c.new-items.result c.rule-rule.ensures c.new-items.ensures in
    took_reply _ _ (other-here (setting_at c.args.desk.now c.args.moment) (at g.S.Store.cache c.args.query.now c.args.desk.now) h c.wanted-kind.result c.wanted-kind.ensures
    (other-rule c.args.desk.now c.args.moment (rule_of c.rule-rule.result) c.wanted-kind.result true c.rule-rule.ensures c.if-not-is_other.ensures)
    (known-is g.S.Store.cache c.args.query.now c.args.desk.now c.args.moment c.wanted-kind.result c.second.result (Some h) c.second.ensures (c.in-Some.ensures.hit (name_of (query_of c.args.query.now)) c.requires.key)))
    (rw text at c.line.ensures)
    (subst (λ (xs : List Body). Replies c.reply_items.result c.reply_items.new.reply (reply_of (query_of c.args.query.now) (map (answer_of (query_of c.args.query.now) c.wanted-kind.result h.ttl) xs))) is c.reply_items.ensures)
    c.replied.ensures refl
