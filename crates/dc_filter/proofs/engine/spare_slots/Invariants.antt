use Rattle.std.proofs.Common.{◌≡◌, ◌≤◌, vec_len, vec_capacity}
use Rattle.dc_filter.specs.Queue.{AreIdle}
use Rattle.dc_filter.proofs.engine.spare_slots.Given as goal

abbrev pub invariant-loop-i : goal.invariant-loop-i
invariant-loop-i l = record {
  many : vec_len l.spare ≡ l.i;
  room : l.slots ≤ vec_capacity l.spare;
  idle : AreIdle l.spare.items;
}
