use Rattle.std.proofs.Common.{◌≡◌, ◌≤◌, ◌+◌, ◌*◌, length, take, map}
use Rattle.dc_model.specs.Line.{hex}
use Rattle.dc_model.specs.Places.{addresses}
use Rattle.dc_lines.specs.Words.{with_words}
use Rattle.dc_lines.proofs.line.Line.addresses.Given as goal

abbrev pub invariant-loop-place : goal.invariant-loop-place
invariant-loop-place l =
    (l.self ≡ with_words l.initial.self (map hex (addresses (take l.place-index l.places))))
    × (length l.self ≤ length l.initial.self + 9 * l.place-index)
