use Rattle.std.proofs.Common.{◌≡◌, ◌<◌, [], ap, subst, sym, ◌∙◌, arith, length, map, vec_len, vec_capacity}
use Rattle.std.specs.List.{AllByRecursion}
use Rattle.std.specs.Result.{is_ok}
use Rattle.dc_model.specs.Rules.{Zone, Zones, servers}
use Rattle.dc_rules.specs.Leading.{led, root_first}
use Rattle.dc_rules.specs.Refusals.{rule_of}
use Rattle.dc_rules.specs.Table.{zone_of, table_of}
use Rattle.dc_rules.proofs.Leading.{first_items, each_first, same_servers, ok_len}
use Rattle.dc_rules.proofs.zones.Zones.put_root_first.Goals as goal

abbrev led_rows : (c : goal.After-unwrap) → table_of c.insert.new.self.items ≡ led [] (table_of c.self.inside.zones.items)
led_rows c =
    first_items zone_of c.self.inside.zones.items c.deref.result.now c.remove-zone.new.self.items c.insert.new.self.items c.in-Some.at c.remove-zone.result c.insert.result c.deref.ensures.value c.in-Some.ensures c.remove-zone.ensures.value
    c.remove-zone.ensures.items (ap is_ok c.unwrap.ensures) c.insert.ensures.items

pub invariant_of-self : goal.invariant_of-self
invariant_of-self c =
    let room = c.self.invariant.room in
    let most = c.self.invariant.most in
    let less = c.remove-zone.ensures.len in
    let cap = c.remove-zone.ensures.capacity in
    let grown = c.insert.ensures.capacity in
    let len = ok_len c.insert.result _ _ _ (ap is_ok c.unwrap.ensures) c.insert.ensures.len in
    record {
      most = omega (arith, most, less, len);
      room = omega (arith, room, cap, grown);
      places = subst (λ t. AllByRecursion (λ (z : Zone). length z.places ≡ 16) t) (sym (led_rows c)) (each_first (λ (z : Zone). length z.places ≡ 16) (table_of c.self.inside.zones.items) c.self.invariant.places);
    }

pub returns-in-Some-clause-first : goal.returns-in-Some-clause-first
returns-in-Some-clause-first c = ap (λ t. record { configured = t; rule = rule_of c.self.inside.rule }) (led_rows c) ∙ ap root_first c.self.view_is

pub returns-in-Some-clause-servers : goal.returns-in-Some-clause-servers
returns-in-Some-clause-servers c = λ n. ap (λ zs. servers zs n) (returns-in-Some-clause-first c) ∙ same_servers c.args.self.now n
