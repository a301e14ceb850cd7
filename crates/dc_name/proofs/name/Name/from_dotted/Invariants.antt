use Rattle.std.proofs.Common.{length}
use Rattle.dc_model.specs.Name as model
use Rattle.dc_name.proofs.TextLemmas.{IsSoFar}
use Rattle.dc_name.proofs.name.Name.from_dotted.Given as goal

abbrev pub invariant-loop-part : goal.invariant-loop-part
invariant-loop-part l = record {
  so_far : IsSoFar (model.without_final_dot l.text) l.name l.parts;
  name : model.IsName l.name;
}

abbrev pub decreases-loop-part : goal.decreases-loop-part
decreases-loop-part l = length l.parts
