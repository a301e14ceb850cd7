use Rattle.std.proofs.Common.{◌≡◌, ◌++◌, drop}
use Rattle.std.specs.List.{flat_map}
use Rattle.dc_rules.specs.Table.{table_of}
use Rattle.dc_record.specs.HeadLines.{zone_line}
use Rattle.dc_record.proofs.head.push_others.Given as goal

abbrev pub invariant-loop-zone : goal.invariant-loop-zone
invariant-loop-zone l = l.text.items ++ flat_map zone_line (table_of (drop l.zone-index l.zones)) ≡ l.fn.text.items ++ flat_map zone_line (table_of l.zones)
