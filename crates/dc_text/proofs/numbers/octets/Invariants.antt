use Rattle.std.proofs.Common.{length, ◌≤◌}
use Rattle.dc_text.proofs.Addresses.{Found}
use Rattle.dc_text.proofs.numbers.octets.Given as goal

abbrev pub invariant-loop-part : goal.invariant-loop-part
invariant-loop-part l = record { found : Found l.text l.found.items l.parts; room : length l.found.items ≤ 4 }

abbrev pub decreases-loop-part : goal.decreases-loop-part
decreases-loop-part l = length l.parts
