use Rattle.std.proofs.Common.{◌≡◌, ◌≤◌, take, vec_len, vec_capacity}
use Rattle.dc_rules.specs.Table.{table_of}
use Rattle.dc_rules.proofs.zones.Zones.copy.Given as goal

abbrev pub invariant-loop-zone : goal.invariant-loop-zone
invariant-loop-zone l = record {
  copied : table_of l.zones.items ≡ table_of (take l.zone-index l.zone-items);
  many : vec_len l.zones ≡ l.zone-index;
  room : 256 ≤ vec_capacity l.zones;
}
