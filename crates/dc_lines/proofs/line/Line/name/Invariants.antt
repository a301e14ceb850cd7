use Rattle.std.proofs.Common.{◌≡◌, ◌+◌, ◌++◌, length, flat_map}
use Rattle.dc_model.specs.Name.{lower, wire}
use Rattle.dc_model.specs.Line.{shown_label}
use Rattle.dc_lines.proofs.line.Line.name.Given as goal

abbrev pub invariant-loop-above : goal.invariant-loop-above
invariant-loop-above l =
    (l.self ++ flat_map shown_label (lower l.rest) ≡ l.initial.self ++ flat_map shown_label (lower l.initial.rest))
    × (length l.self + length (wire l.rest) ≡ length l.initial.self + length (wire l.initial.rest))

abbrev pub decreases-loop-above : goal.decreases-loop-above
decreases-loop-above l = length l.rest
