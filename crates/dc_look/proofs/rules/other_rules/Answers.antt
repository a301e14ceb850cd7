use Rattle.std.proofs.Common.{ap, sym, ◌∙◌}
use Rattle.dc_model.specs.Name.{same, reverse_name}
use Rattle.dc_machine.specs.Turn.{loopback}
use Rattle.dc_desk.specs.View.{setting_at, at}
use Rattle.dc_look.proofs.Taking.{took_as}
use Rattle.dc_look.proofs.RowLemmas.{loopback-here, loopback-not}
use Rattle.dc_look.proofs.rules.other_rules.Goals as goal

pub returns-then-is_loopback : goal.returns-then-is_loopback
returns-then-is_loopback g c = took_as (loopback-here (setting_at c.args.desk.now c.args.moment) (at g.S.Store.cache c.args.query.now c.args.desk.now)
    (ap (λ n. same n (reverse_name loopback)) (sym c.name.ensures) ∙ sym c.if-is_loopback.ensures)) (c.give_host.ensures c.args.moment)

pub returns : goal.returns
returns g c = took_as (loopback-not (setting_at c.args.desk.now c.args.moment) (at g.S.Store.cache c.args.query.now c.args.desk.now)
    (ap (λ n. same n (reverse_name loopback)) (sym c.name.ensures) ∙ sym c.if-is_loopback.ensures)) c.missing.ensures
