use Rattle.std.proofs.Common.{◌≡◌, ◌+◌, ◌*◌, ◌++◌, length, take}
use Rattle.dc_model.specs.Line.{hex}
use Rattle.dc_lines.proofs.line.Line.hex.Given as goal

abbrev pub invariant-loop-byte : goal.invariant-loop-byte
invariant-loop-byte l =
    (l.self ≡ l.initial.self ++ hex (take l.byte-index l.more)) × (length l.self ≡ length l.initial.self + 2 * l.byte-index)
