use Rattle.std.proofs.Common.{◌≡◌, None, Some, List, map, refl, ap, subst, ◌∙◌}
use Rattle.dc_model.specs.Message.{Body}
use Rattle.dc_model.specs.Line.{line_cached}
use Rattle.dc_machine.specs.Turn.{Known, items, reply_of, answer_of}
use Rattle.dc_rules.specs.Refusals.{rule_of}
use Rattle.dc_answer.specs.Replies.{Replies}
use Rattle.dc_frames.specs.View.{query_of}
use Rattle.dc_machine.specs.Query.{name_of}
use Rattle.dc_desk.specs.View.{setting_at, at}
use Rattle.dc_look.specs.Found.{entry_value}
use Rattle.dc_look.proofs.Taking.{took_as, took_reply}
use Rattle.dc_look.proofs.RowLemmas.{second-is, first-is, items-are, known-none, known-answers}
use Rattle.dc_look.proofs.kinds.answer_known.Goals as goal

pub returns-in_default : goal.returns-in_default
returns-in_default g c = took_as (known-none (setting_at c.args.desk.now c.args.moment) (at g.S.Store.cache c.args.query.now c.args.desk.now)
    (first-is g.S.Store.cache c.args.query.now c.args.desk.now c.args.moment (rule_of c.rule-rule.result) c.kinds_known-kinds.result.now None c.rule-rule.ensures c.kinds_known-kinds.ensures
    (c.in_default.ensures.known (setting_at c.args.desk.now c.args.moment) c.args.desk.now.link (second-is c.args.desk.now c.args.moment c.second.result c.second.ensures)))) c.other.ensures

pub returns : goal.returns
returns g c =
    let k : Known = entry_value c.in-Some.entry in
    let text : c.text.result.now ≡ line_cached k.kind (name_of (query_of c.args.query.now)) = c.text.ensures.bytes ∙ (c.line_cached.ensures ∙ ap (line_cached k.kind) c.name.ensures) in
    let is : c.new-items.result ≡ items (setting_at c.args.desk.now c.args.moment) k.kind k.hit =
    items-are c.args.desk.now c.args.moment (rule_of c.rule-rule.result) k.kind k.hit.ttl k.hit.body c.new-items.result c.rule-rule.ensures c.new-items.ensures in
    took_reply _ _ (known-answers (setting_at c.args.desk.now c.args.moment) (at g.S.Store.cache c.args.query.now c.args.desk.now) k
    (first-is g.S.Store.cache c.args.query.now c.args.desk.now c.args.moment (rule_of c.rule-rule.result) c.kinds_known-kinds.result.now (Some k) c.rule-rule.ensures c.kinds_known-kinds.ensures
    (c.in-Some.ensures.known (setting_at c.args.desk.now c.args.moment) c.args.desk.now.link (second-is c.args.desk.now c.args.moment c.second.result c.second.ensures)))
    c.requires.lowest) (rw text at c.line.ensures)
    (subst (λ (xs : List Body). Replies c.reply_items.result c.reply_items.new.reply (reply_of (query_of c.args.query.now) (map (answer_of (query_of c.args.query.now) k.kind k.hit.ttl) xs))) is c.reply_items.ensures)
    c.replied.ensures refl
