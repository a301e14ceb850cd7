use Rattle.std.proofs.Common.{◌≡◌, drop}
use Rattle.std.specs.List.{list_any}
use Rattle.dc_model.specs.Rules.{is_named}
use Rattle.dc_rules.specs.Table.{zone_of, table_of}
use Rattle.dc_record.proofs.sayable.has_name.Given as goal

abbrev pub invariant-loop-other : goal.invariant-loop-other
invariant-loop-other l = list_any (is_named (zone_of l.zone).name) (table_of l.zones) ≡ list_any (is_named (zone_of l.zone).name) (table_of (drop l.other-index l.zones))
