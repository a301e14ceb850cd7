use Rattle.std.proofs.Common.{◌≡◌, drop}
use Rattle.dc_record.specs.HeadOf.{is_packed}
use Rattle.dc_record.proofs.sayable.is_packed.Given as goal

abbrev pub invariant-loop-at : goal.invariant-loop-at
invariant-loop-at l = is_packed l.places ≡ is_packed (drop l.at l.places)
