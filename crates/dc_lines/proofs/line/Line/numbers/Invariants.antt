use Rattle.std.proofs.Common.{◌≡◌, ◌≤◌, ◌+◌, ◌*◌, length, take, map, decimal}
use Rattle.dc_lines.specs.Words.{with_words}
use Rattle.dc_lines.proofs.line.Line.numbers.Given as goal

abbrev pub invariant-loop-number : goal.invariant-loop-number
invariant-loop-number l =
    (l.self ≡ with_words l.initial.self (map decimal (take l.number-index l.numbers)))
    × (length l.self ≤ length l.initial.self + 21 * l.number-index)
