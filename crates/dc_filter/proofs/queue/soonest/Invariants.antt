use Rattle.std.proofs.Common.{◌≡◌, ◌≤◌, map, drop, length}
use Rattle.dc_lookup.specs.Filter as model
use Rattle.dc_filter.specs.Queue.{slots_of}
use Rattle.dc_filter.proofs.queue.soonest.Given as goal

abbrev pub invariant-loop-place : goal.invariant-loop-place
invariant-loop-place l = record {
  found : l.found ≡ model.soonest (map (λ s. model.due_at s.at) (slots_of (drop l.place l.queue)));
  within : l.place ≤ length l.queue;
}

abbrev pub decreases-loop-place : goal.decreases-loop-place
decreases-loop-place l = l.place
