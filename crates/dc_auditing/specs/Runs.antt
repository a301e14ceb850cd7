-- Recorded runs as they are held, and findings on them.
use Rattle.std.specs.Prelude.{◌≡◌, ℕ, Bool, true, false, List, [], ◌∷◌, length, count_by, map, Option, Some, None, option_map, Result, Ok, Err}
use Rattle.dc_audit.specs.declared.judge.Pair.{Pair}
use Rattle.dc_audit.specs.declared.outcome.Verdict.{Verdict}
use Rattle.dc_auditing.specs.Findings.{Recorded}
use Rattle.dc_auditing.specs.declared.finding.Finding.{Finding}
use Rattle.dc_auditing.specs.declared.finding.Finding.TheVariants.{Judged, Missing}
use Rattle.dc_auditing.specs.declared.reading.Unread.{Unread}
use Rattle.dc_auditing.specs.declared.reading.Unread.TheVariants.{Failed, NoMemory}

-- The pair's bytes.
abbrev pub recorded_of : Pair → Recorded
recorded_of p = record { script = p.script.items; text = p.recorded.items }

-- One item for each place that has one, in order, and none at the others.
unfoldable pub spread : {A : Type 0} → List Bool → List A → List (Option A)
spread [] xs = []
spread (false ∷ bs) xs = None ∷ spread bs xs
spread (true ∷ bs) [] = None ∷ spread bs []
spread (true ∷ bs) (x ∷ xs) = Some x ∷ spread bs xs

-- What is held of each name.
abbrev pub held_in : List Bool → List Pair → List (Option Recorded)
held_in bs ps = map (option_map recorded_of) (spread bs ps)

-- There is an item for each place that has one.
abbrev pub IsWhole : {A : Type 0} → List Bool → List A → Type 0
IsWhole bs xs = count_by (λ b. b) bs ≡ length xs

-- What a verdict is of a name.
abbrev pub found_of : Option Verdict → Finding
found_of None = Missing
found_of (Some v) = Judged v

-- Whether no call of the files failed.

abbrev pub well_why : Unread → Bool
well_why Failed = false
well_why NoMemory = true

abbrev pub well : {T : Type 0} → Result T Unread → Bool
well (Ok x) = true
well (Err why) = well_why why
