use Rattle.std.proofs.Common.{sym, ◌∙◌}
use Rattle.dc_rules.specs.Refusals.{rule_of}
use Rattle.dc_items.specs.Read.{item_read}
use Rattle.dc_items.proofs.LeftLemmas.{item_ends, left_some, left_none, left_end}
use Rattle.dc_items.proofs.items.Items.next_item.Goals as goal

pub invariant_of-self : goal.invariant_of-self
invariant_of-self c =
    let inside = c.self.inside in
    (item_ends (rule_of inside.rule) inside.kind inside.body.now inside.at (item_read c.in-Some.item) (sym c.in-Some.ensures)).within

pub returns-in-Some : goal.returns-in-Some
returns-in-Some c =
    let inside = c.self.inside in
    sym c.self.view_is ∙ left_some (rule_of inside.rule) inside.kind inside.body.now inside.at (item_read c.in-Some.item) c.in-Some.ensures

pub returns-in-None : goal.returns-in-None
returns-in-None c =
    let inside = c.self.inside in
    (sym c.self.view_is ∙ left_none (rule_of inside.rule) inside.kind inside.body.now inside.at c.in-None.ensures, left_end (rule_of inside.rule) inside.kind inside.body.now)
