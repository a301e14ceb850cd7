use Rattle.std.proofs.Common.{◌≡◌, drop}
use Rattle.dc_model.specs.Places.{all_empty}
use Rattle.dc_record.proofs.sayable.all_empty.Given as goal

abbrev pub invariant-loop-place : goal.invariant-loop-place
invariant-loop-place l = all_empty l.places ≡ all_empty (drop l.place-index l.places)
