-- The cache that a service leaves.
use Rattle.std.specs.Prelude.{◌≡◌, ◌⊎◌, ℕ, List, []}
use Rattle.dc_model.specs.Cache.{Cache}
use Rattle.dc_image.specs.Loaded.{Saves}
use Rattle.dc_image.specs.declared.save.Saved.TheVariants.{Whole, Failed}
use Rattle.dc_status.specs.declared.status.Status.{Status}
use Rattle.dc_status.specs.declared.status.Status.TheVariants.{Done, Spent, WriteFault}

-- Serving ended without a fault: the events are used up, or as many were handled as are allowed.
abbrev pub HasEnded : Status → Type 0
HasEnded status = (status ≡ Done) ⊎ (status ≡ Spent)

-- The last cache was saved, and the status stays.
pub record IsSaved {O : Type 0} (gained : O → List ℕ → O → Type 0) (c : Cache) (old new : O) (ended after : Status) : Type 0 where
  pub well : HasEnded ended
  pub same : after ≡ ended
  pub saves : Saves gained c old new Whole

-- It was to be saved, and the sink failed behind a front of the image.
pub record IsCut {O : Type 0} (gained : O → List ℕ → O → Type 0) (c : Cache) (old new : O) (ended after : Status) : Type 0 where
  pub well : HasEnded ended
  pub fault : after ≡ WriteFault
  pub saves : Saves gained c old new Failed

-- Nothing was saved.
pub record IsUnsaved {O : Type 0} (gained : O → List ℕ → O → Type 0) (old new : O) (ended after : Status) : Type 0 where
  pub other : HasEnded ended → ⊥
  pub same : after ≡ ended
  pub nothing : gained old [] new

-- What becomes of the last cache, by how serving ended, and the status behind that.
abbrev pub Leaves : {O : Type 0} (gained : O → List ℕ → O → Type 0) → Cache → (old new : O) → (ended after : Status) → Type 0
Leaves gained c old new ended after = IsSaved gained c old new ended after ⊎ (IsCut gained c old new ended after ⊎ IsUnsaved gained old new ended after)
