use Rattle.std.proofs.Common.{◌≡◌, drop, take, ◌++◌, length}
use Rattle.dc_model.specs.Places.{add_address}
use Rattle.dc_frames.proofs.place.place.Given as goal

abbrev pub invariant-loop-i : goal.invariant-loop-i
invariant-loop-i l = record {
  same : l.places ≡ l.fn.places;
  rest : add_address l.fn.address l.places ≡ take l.i l.places ++ add_address l.fn.address (drop l.i l.places);
  all : length l.places ≡ 16;
}
