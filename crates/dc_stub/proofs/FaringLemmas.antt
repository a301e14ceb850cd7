-- How a sink fares where words are gone over.
use Rattle.std.proofs.Common.{◌≡◌, ℕ, List, subst}
use Rattle.dc_event.specs.Causes.{Fares}
use Rattle.dc_stub.specs.Faults.{output_well}
use Rattle.dc_stub.specs.declared.status.ToolStatus.{ToolStatus}
use Rattle.dc_stub.specs.declared.status.ToolStatus.TheVariants.{Done}

-- A word that is done wrote well.
pub done_fares : {K : Type 0} (gained : K → List ℕ → K → Type 0) (refused : K → K → Type 0) (faults : K → ℕ) (status : ToolStatus) (old new : K)
    → status ≡ Done → Fares gained refused faults (output_well status) old new → faults new ≡ faults old
done_fares gained refused faults status old new is f = subst (λ (x : ToolStatus). Fares gained refused faults (output_well x) old new) is f
