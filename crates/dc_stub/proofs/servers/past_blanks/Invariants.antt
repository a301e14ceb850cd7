use Rattle.std.proofs.Common.{◌≡◌, ℕ, ◌<◌, true, get_or}
use Rattle.dc_lookup.specs.Servers.{is_blank}
use Rattle.dc_stub.proofs.servers.past_blanks.Given as goal

abbrev pub invariant-loop-end : goal.invariant-loop-end
invariant-loop-end l = (k : ℕ) → k < l.end → is_blank (get_or l.text k 0) ≡ true
