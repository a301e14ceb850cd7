-- What the program says of how it ended.
use Rattle.std.specs.Prelude.{ℕ, Bool, true, false, List, [], ◌∷◌, ◌++◌, codes, decimal}
use Rattle.dc_event.specs.Told.{GainedFront}
use Rattle.dc_config.specs.Variables.{name_of}
use Rattle.dc_status.specs.declared.status.Status.{Status}
use Rattle.dc_status.specs.declared.status.Status.TheVariants.{Done, Spent, Usage, BadVariable, NoRoot, BadZone, BadPermit, FilesFault, SeedShort, ReadFault, WriteFault, BadScript, BadImage, Unequal, WorldFault, NoMemory}

-- The line of a refusal: these words, and what they speak of.
unfoldable pub fatal : List ℕ → List ℕ → List ℕ
fatal words about = codes "dnscache: fatal: " ++ (words ++ (about ++ (10 ∷ [])))

-- Nothing is said where the program ended well, nor of runs that aren't as recorded, of which lines are written.
abbrev pub text_of : Status → List ℕ
text_of Done = []
text_of Spent = []
text_of Unequal = []
text_of Usage = fatal (codes "usage: dnscache [replay | simulate SEED EVENTS | audit FILE ..]") []
text_of (BadVariable v) = fatal (codes "unable to read $") (name_of v)
text_of NoRoot = fatal (codes "no root servers") []
text_of (BadZone file) = fatal (codes "bad server file ") file
text_of (BadPermit file) = fatal (codes "bad permission file ") file
text_of FilesFault = fatal (codes "unable to read files") []
text_of SeedShort = fatal (codes "seed too short") []
text_of ReadFault = fatal (codes "unable to read input") []
text_of WriteFault = fatal (codes "unable to write output") []
text_of (BadScript k) = fatal (codes "bad script line ") (decimal k)
text_of BadImage = fatal (codes "bad cache image") []
text_of WorldFault = fatal (codes "network or log fault") []
text_of NoMemory = fatal (codes "out of memory") []

-- A text was put: all of it, or, where a call failed, a front of it.
abbrev pub Puts : {K : Type 0} → (K → List ℕ → K → Type 0) → Bool → K → List ℕ → K → Type 0
Puts gained true old text new = gained old text new
Puts gained false old text new = GainedFront gained old text new
