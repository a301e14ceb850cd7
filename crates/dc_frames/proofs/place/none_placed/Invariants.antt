use Rattle.std.proofs.Common.{◌≡◌, drop}
use Rattle.dc_model.specs.Places.{all_empty}
use Rattle.dc_frames.proofs.place.none_placed.Given as goal

abbrev pub invariant-loop-i : goal.invariant-loop-i
invariant-loop-i l = all_empty l.places ≡ all_empty (drop l.i l.places)
