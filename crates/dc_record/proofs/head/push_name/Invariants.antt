use Rattle.std.proofs.Common.{◌≡◌, ◌++◌, length}
use Rattle.dc_record.specs.HeadOf.{dotted_text}
use Rattle.dc_record.proofs.head.push_name.Given as goal

abbrev pub invariant-loop-above : goal.invariant-loop-above
invariant-loop-above l = l.text.items ++ dotted_text l.rest ≡ l.fn.text.items ++ dotted_text l.name

abbrev pub decreases-loop-above : goal.decreases-loop-above
decreases-loop-above l = length l.rest
