use Rattle.std.proofs.Common.{◌≡◌, ◌+◌, ◌++◌, length, take, map}
use Rattle.std.specs.Str.{str_to_ascii_lowercase}
use Rattle.dc_model.specs.Line.{shown_byte}
use Rattle.dc_lines.proofs.line.Line.label.Given as goal

abbrev pub invariant-loop-byte : goal.invariant-loop-byte
invariant-loop-byte l =
    (l.self ≡ l.initial.self ++ map shown_byte (str_to_ascii_lowercase (take l.byte-index l.label)))
    × (length l.self ≡ length l.initial.self + l.byte-index)
