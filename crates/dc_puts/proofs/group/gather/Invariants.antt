use Rattle.std.proofs.Common.{◌≡◌, ◌||◌, ◌++◌, List, ℕ, length}
use Rattle.std.specs.List.{list_any}
use Rattle.dc_puts.specs.Order.{records_in}
use Rattle.dc_puts.specs.Held.{Holds}
use Rattle.dc_puts.specs.Told.{counts_for, lines_for, items_for, AreSound}
use Rattle.dc_puts.proofs.group.gather.Given as goal

abbrev pub invariant-loop-rest : goal.invariant-loop-rest
invariant-loop-rest g l = record {
  sound : AreSound l.message l.rest;
  some : (l.some || list_any (counts_for l.shared.kind) (records_in l.message l.rest)) ≡ list_any (counts_for l.shared.kind) (records_in l.message l.run);
  acts : (after : _) → g.O.Effects.acted l.out (lines_for l.shared.server l.shared.ttl l.shared.kind l.shared.owner (records_in l.message l.rest)) after → g.O.Effects.acted l.fn.out (lines_for l.shared.server l.shared.ttl l.shared.kind l.shared.owner (records_in l.message l.run)) after;
  body : (xs : List ℕ) → Holds l.fn.body xs → (ys : List ℕ) × Holds l.body ys × (ys ++ items_for l.shared.kind (records_in l.message l.rest) ≡ xs ++ items_for l.shared.kind (records_in l.message l.run));
}

abbrev pub decreases-loop-rest : goal.decreases-loop-rest
decreases-loop-rest g l = length l.rest
