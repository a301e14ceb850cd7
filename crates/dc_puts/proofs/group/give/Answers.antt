use Rattle.std.proofs.Common.{List, [], ap, sym, ◌∙◌, subst}
use Rattle.dc_model.specs.Message.{Record}
use Rattle.dc_rules.specs.Refusals.{rule_of}
use Rattle.dc_puts.specs.Order.{records_in}
use Rattle.dc_puts.specs.Told.{looked_at, lines_for, items_for, keeps_kind}
use Rattle.dc_puts.proofs.Telling.{looked_records, kept_yes, kept_no}
use Rattle.dc_puts.proofs.group.give.Goals as goal

pub returns-then-keeps-clause-acts : goal.returns-then-keeps-clause-acts
returns-then-keeps-clause-acts g c =
    let s = c.args.shared.now in
    subst (λ (rs : List Record). g.O.Effects.acted c.args.out.now (lines_for s.server s.ttl s.kind s.owner rs) c.gather-some.new.out)
    (looked_records c.args.message.now s.kind c.args.run.now c.looked_at-counting.result.now c.requires.some c.looked_at-counting.ensures) c.gather-some.ensures.acts

pub returns-then-keeps-clause-cache : goal.returns-then-keeps-clause-cache
returns-then-keeps-clause-cache g c =
    let s = c.args.shared.now in
    let rs : List Record = records_in c.args.message.now c.looked_at-counting.result.now in
    c.keep.ensures (items_for s.kind rs) (c.gather-some.ensures.body [] c.clear.ensures)
    ∙ kept_yes (rule_of c.args.rule) s.ttl s.kind s.owner rs (looked_at s.kind (records_in c.args.message.now c.args.run.now)) c.args.now (g.S.Store.cache c.args.store.now)
    (sym (c.keeps.ensures ∙ ap (keeps_kind (rule_of c.args.rule) s.kind) c.gather-some.ensures.some) ∙ c.if-keeps.true)
    (looked_records c.args.message.now s.kind c.args.run.now c.looked_at-counting.result.now c.requires.some c.looked_at-counting.ensures)

pub returns-else-keeps-clause-cache : goal.returns-else-keeps-clause-cache
returns-else-keeps-clause-cache g c =
    let s = c.args.shared.now in
    let rs : List Record = records_in c.args.message.now c.looked_at-counting.result.now in
    kept_no (rule_of c.args.rule) s.ttl s.kind s.owner rs (looked_at s.kind (records_in c.args.message.now c.args.run.now)) c.args.now (g.S.Store.cache c.args.store.now)
    (sym (c.keeps.ensures ∙ ap (keeps_kind (rule_of c.args.rule) s.kind) c.gather-some.ensures.some) ∙ c.if-keeps.false)
    (looked_records c.args.message.now s.kind c.args.run.now c.looked_at-counting.result.now c.requires.some c.looked_at-counting.ensures)
