use Rattle.std.proofs.Common.{◌≡◌, ◌≤◌, ◌+◌, ◌*◌, ◌-◌, length, vec_len, vec_capacity}
use Rattle.dc_packet.specs.Rows.{named_section}
use Rattle.dc_packet.proofs.RowLemmas.{IsReading}
use Rattle.dc_packet.proofs.rows.read_section.Given as goal

abbrev pub invariant-loop-read : goal.invariant-loop-read
invariant-loop-read l = record {
  places : 5957 ≤ vec_capacity l.rows;
  room : 17 + 11 * vec_len l.rows ≤ l.at;
  within : l.at ≤ length l.packet;
  reading : IsReading l.packet (named_section l.section) l.count l.fn.at l.fn.rows.items (l.count - l._read) l.at l.rows.items;
}
