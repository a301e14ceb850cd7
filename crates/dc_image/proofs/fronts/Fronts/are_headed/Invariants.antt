use Rattle.std.proofs.Common.{◌≡◌, ℕ, ◌*◌, ◌<◌, get_or}
use Rattle.dc_model.specs.Block.{get4}
use Rattle.dc_image.specs.Fronts.{no_front, Fits}
use Rattle.dc_image.proofs.fronts.Fronts.are_headed.Given as goal

abbrev pub invariant-loop-index : goal.invariant-loop-index
invariant-loop-index l = (k : ℕ) → k < l.index
    → (get4 l.block (4 * k) ≡ (get_or l.self.fronts.items k no_front).newest) × Fits (get_or l.self.fronts.items k no_front) (4 * k)
