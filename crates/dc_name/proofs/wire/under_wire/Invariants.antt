use Rattle.std.proofs.Common.{◌≡◌, length}
use Rattle.dc_model.specs.Name as model
use Rattle.dc_name.specs.Wire.{IsWire, name_of}
use Rattle.dc_name.proofs.wire.under_wire.Given as goal

abbrev pub invariant-loop-rest : goal.invariant-loop-rest
invariant-loop-rest l = record {
  name : IsWire l.rest;
  same : model.under (name_of l.rest) (name_of l.zone) ≡ model.under (name_of l.fn.wire) (name_of l.zone);
}

abbrev pub decreases-loop-rest : goal.decreases-loop-rest
decreases-loop-rest l = length l.rest
