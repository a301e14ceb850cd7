use Rattle.std.proofs.Common.{◌≡◌, length}
use Rattle.dc_record.specs.HeadOf.{is_said_name}
use Rattle.dc_record.proofs.sayable.is_said_name.Given as goal

abbrev pub invariant-loop-above : goal.invariant-loop-above
invariant-loop-above l = is_said_name l.name ≡ is_said_name l.rest

abbrev pub decreases-loop-above : goal.decreases-loop-above
decreases-loop-above l = length l.rest
