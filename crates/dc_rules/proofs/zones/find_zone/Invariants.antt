use Rattle.std.proofs.Common.{◌≡◌, drop, find}
use Rattle.dc_model.specs.Rules.{is_named}
use Rattle.dc_rules.specs.Table.{table_of}
use Rattle.dc_rules.proofs.zones.find_zone.Given as goal

abbrev pub invariant-loop-zone : goal.invariant-loop-zone
invariant-loop-zone l = find (is_named l.name) (table_of l.zones) ≡ find (is_named l.name) (table_of (drop l.zone-index l.zones))
