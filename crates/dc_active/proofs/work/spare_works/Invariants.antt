use Rattle.std.proofs.Common.{◌≡◌, ◌≤◌, IsNone, vec_len, vec_capacity}
use Rattle.dc_machine.specs.Kept.{AllOf}
use Rattle.dc_active.proofs.work.spare_works.Given as goal

abbrev pub invariant-loop-i : goal.invariant-loop-i
invariant-loop-i l = record {
  many : vec_len l.works ≡ l.i;
  room : 221 ≤ vec_capacity l.works;
  idle : AllOf (λ w. IsNone w.value.sender.attempt) l.works.items;
}
