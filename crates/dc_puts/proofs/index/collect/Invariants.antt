use Rattle.std.proofs.Common.{◌≡◌, ◌≤◌, take, length}
use Rattle.dc_puts.specs.Order.{places_from}
use Rattle.dc_puts.proofs.index.collect.Given as goal

abbrev pub invariant-loop-i : goal.invariant-loop-i
invariant-loop-i l = record {
  items : l.index.items ≡ places_from 0 (take l.i l.message.records);
  few : length l.index.items ≤ l.i;
}
