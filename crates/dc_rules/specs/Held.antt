-- The zones that the fields of `Zones` hold.
use Rattle.std.specs.Prelude.{◌≡◌, length, ◌≤◌, vec_len, vec_capacity}
use Rattle.std.specs.List.{AllByRecursion}
use Rattle.dc_model.specs.Rules.{Zone, Zones}
use Rattle.dc_rules.specs.Refusals.{rule_of}
use Rattle.dc_rules.specs.Table.{table_of}
use Rattle.dc_rules.specs.declared.zones.Zones.TheInside.{Inside}

-- The zones and the rule.
abbrev pub zones_of : Inside → Zones
zones_of a = record { configured = table_of a.zones.items; rule = rule_of a.rule }

-- At most 256 zones, and memory for so many.
pub record HasRoom (a : Inside) : Type 0 where
  pub most : vec_len a.zones ≤ 256
  pub room : 256 ≤ vec_capacity a.zones
  pub places : AllByRecursion (λ (z : Zone). length z.places ≡ 16) (table_of a.zones.items)
