use Rattle.std.proofs.Common.{drop}
use Rattle.std.specs.List.{AllByRecursion}
use Rattle.dc_rules.specs.Table.{table_of}
use Rattle.dc_record.specs.HeadOf.{IsZone}
use Rattle.dc_record.proofs.typed.are_zones.Given as goal

abbrev pub invariant-loop-zone : goal.invariant-loop-zone
invariant-loop-zone l = AllByRecursion IsZone (table_of (drop l.zone-index l.zones)) → AllByRecursion IsZone (table_of l.zones)
