use Rattle.std.proofs.Common.{◌≡◌, ◌+◌, ◌-◌, ◌*◌, ◌≤◌}
use Rattle.dc_model.specs.Cache.{doubled}
use Rattle.dc_bucket.proofs.hsize_of.Given as goal

abbrev pub invariant-loop-heads : goal.invariant-loop-heads
invariant-loop-heads l = record {
  least : 4 ≤ l.heads;
  most : l.heads ≤ 2 * l.size + 4;
  same : doubled 28 l.heads l.size ≡ doubled 28 4 l.size;
}

abbrev pub decreases-loop-heads : goal.decreases-loop-heads
decreases-loop-heads l = l.size - l.heads
