use Rattle.std.proofs.Common.{sym, ◌∙◌}
use Rattle.dc_rules.specs.Refusals.{rule_of}
use Rattle.dc_puts.proofs.Telling.{acts_in, cache_in, acts_out, cache_out}
use Rattle.dc_puts.proofs.group.put_run.Goals as goal

pub returns-then-in_zone-clause-acts : goal.returns-then-in_zone-clause-acts
returns-then-in_zone-clause-acts g c =
    acts_in g.O.Effects.acted c.args.out.now c.give.new.out c.args.message.now c.args.zones.now c.args.control.now c.args.server c.args.run.now c.shared_by-shared.result c.shared_by-shared.ensures
    (sym c.in_zone.ensures ∙ c.if-in_zone.true) c.give.ensures.acts

pub returns-then-in_zone-clause-cache : goal.returns-then-in_zone-clause-cache
returns-then-in_zone-clause-cache g c =
    cache_in (g.S.Store.cache c.args.store.now) (g.S.Store.cache c.give.new.store) c.args.now c.args.message.now c.args.zones.now c.args.control.now c.args.server c.args.run.now c.shared_by-shared.result (rule_of c.rule.result) c.shared_by-shared.ensures c.rule.ensures
    (sym c.in_zone.ensures ∙ c.if-in_zone.true) c.give.ensures.cache

pub returns-else-in_zone-clause-acts : goal.returns-else-in_zone-clause-acts
returns-else-in_zone-clause-acts g c =
    acts_out g.O.Effects.acted c.args.out.now c.args.message.now c.args.zones.now c.args.control.now c.args.server c.args.run.now c.shared_by-shared.result c.shared_by-shared.ensures
    (sym c.in_zone.ensures ∙ c.if-in_zone.false) (g.met.O.Effects.acted_none _)

pub returns-else-in_zone-clause-cache : goal.returns-else-in_zone-clause-cache
returns-else-in_zone-clause-cache g c =
    cache_out (g.S.Store.cache c.args.store.now) c.args.now c.args.message.now c.args.zones.now c.args.control.now c.args.server c.args.run.now c.shared_by-shared.result c.shared_by-shared.ensures
    (sym c.in_zone.ensures ∙ c.if-in_zone.false)
