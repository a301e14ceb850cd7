use Rattle.std.proofs.Common.{◌≡◌, ℕ, ◌<◌, true, get_or}
use Rattle.dc_filter.specs.Lines.{is_address_byte}
use Rattle.dc_filter.proofs.line.address_part.Given as goal

abbrev pub invariant-loop-end : goal.invariant-loop-end
invariant-loop-end l = (k : ℕ) → k < l.end → is_address_byte (get_or l.line k 0) ≡ true
