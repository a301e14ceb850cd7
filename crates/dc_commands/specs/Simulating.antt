-- What simulating comes to.
use Rattle.std.specs.Prelude.{◌≡◌, ℕ, List}
use Rattle.dc_event.specs.Told.{GainedFront}
use Rattle.dc_status.specs.declared.status.Status.{Status}
use Rattle.dc_status.specs.declared.status.Status.TheVariants.{Done, Spent, Usage, BadVariable, NoRoot, BadZone, BadPermit, FilesFault, SeedShort, ReadFault, WriteFault, BadScript, BadImage, Unequal, WorldFault, NoMemory}

-- What a sink gained of a summary, by the status: all of it; a front, where the output failed; or nothing, where there wasn't memory enough.
-- Other statuses don't come.
abbrev pub Simulates : {K : Type 0} → (K → List ℕ → K → Type 0) → Status → K → List ℕ → K → Type 0
Simulates gained Done old text new = gained old text new
Simulates gained WriteFault old text new = GainedFront gained old text new
Simulates gained NoMemory old text new = new ≡ old
Simulates gained Spent old text new = ⊥
Simulates gained Usage old text new = ⊥
Simulates gained BadImage old text new = ⊥
Simulates gained Unequal old text new = ⊥
Simulates gained (BadVariable v) old text new = ⊥
Simulates gained NoRoot old text new = ⊥
Simulates gained (BadZone f) old text new = ⊥
Simulates gained (BadPermit f) old text new = ⊥
Simulates gained FilesFault old text new = ⊥
Simulates gained SeedShort old text new = ⊥
Simulates gained ReadFault old text new = ⊥
Simulates gained (BadScript k) old text new = ⊥
Simulates gained WorldFault old text new = ⊥
