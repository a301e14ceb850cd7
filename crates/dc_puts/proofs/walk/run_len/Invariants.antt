use Rattle.std.proofs.Common.{◌≤◌, ◌-◌, length, take}
use Rattle.dc_puts.specs.Order.{records_in}
use Rattle.dc_puts.specs.Group.{first_pair}
use Rattle.dc_puts.proofs.Runs.{AreOf}
use Rattle.dc_puts.proofs.walk.run_len.Given as goal

abbrev pub invariant-loop-n : goal.invariant-loop-n
invariant-loop-n l = record {
  least : 1 ≤ l.n;
  most : l.n ≤ length l.rest;
  own : AreOf (first_pair l.message l.rest) (records_in l.message (take l.n l.rest));
}

abbrev pub decreases-loop-n : goal.decreases-loop-n
decreases-loop-n l = length l.rest - l.n
