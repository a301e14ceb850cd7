use Rattle.std.proofs.Common.{◌≡◌, ◌+◌, ◌*◌, ◌≤◌, ◌++◌, length}
use Rattle.arrayvec.specs.ArrayVec.{array_vec_len}
use Rattle.dc_model.specs.Name.{wire}
use Rattle.dc_lookup.specs.Text.{dot}
use Rattle.dc_show.specs.Dots.{dotted}
use Rattle.dc_show.proofs.names.dot.Given as goal

abbrev pub invariant-loop-above : goal.invariant-loop-above
invariant-loop-above l = (l.out.items ++ dotted l.rest ≡ dot l.name) × (array_vec_len l.out + 4 * length (wire l.rest) ≤ 1024)

abbrev pub decreases-loop-above : goal.decreases-loop-above
decreases-loop-above l = length l.rest
