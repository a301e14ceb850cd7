use Rattle.std.proofs.Common.{Some, ap, ◌∙◌}
use Rattle.dc_machine.specs.Turn.{built_in}
use Rattle.dc_desk.specs.View.{setting_at, at}
use Rattle.dc_look.proofs.Taking.{took_as}
use Rattle.dc_look.proofs.RowLemmas.{rules-by, rules-none}
use Rattle.dc_look.proofs.rules.first_rules.Goals as goal

pub returns-in-Some : goal.returns-in-Some
returns-in-Some g c = took_as (rules-by (Some c.in-Some.address) (setting_at c.args.desk.now c.args.moment) (at g.S.Store.cache c.args.query.now c.args.desk.now)
    (c.in-Some.ensures ∙ ap built_in c.name.ensures)) (c.give_address.ensures c.args.moment)

pub returns-in-None : goal.returns-in-None
returns-in-None g c = took_as (rules-none (setting_at c.args.desk.now c.args.moment) (at g.S.Store.cache c.args.query.now c.args.desk.now)
    (c.in-None.ensures ∙ ap built_in c.name.ensures)) c.other_rules.ensures
