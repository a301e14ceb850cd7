use Rattle.std.proofs.Common.{◌≤◌, drop, length}
use Rattle.dc_active.specs.Places.{IsEarliestOf}
use Rattle.dc_active.specs.View.{queries_of}
use Rattle.dc_active.proofs.entry.earliest.Given as goal

abbrev pub invariant-loop-place : goal.invariant-loop-place
invariant-loop-place l = record {
  range : l.place ≤ length l.entries;
  found : IsEarliestOf (drop l.place (queries_of l.entries)) (queries_of l.entries) l.found;
}

abbrev pub decreases-loop-place : goal.decreases-loop-place
decreases-loop-place l = l.place
