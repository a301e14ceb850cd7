-- Relations between a state, a list that was gained, and a later state.
use Rattle.std.specs.Prelude.{◌≡◌, ℕ, List, ◌++◌}
use Rattle.std.specs.declared.option.Option.{Option}
use Rattle.std.specs.declared.option.Option.TheVariants.{None, Some}

-- The two states fix the list that was gained between them.
abbrev pub Tells : {W A : Type 0} → (W → List A → W → Type 0) → W → W → Type 0
Tells {W} {A} gained old new = (xs ys : List A) → gained old xs new → gained old ys new → xs ≡ ys

-- The same among the lists that P holds of.
abbrev pub TellsAmong : {W A : Type 0} → (List A → Type 0) → (W → List A → W → Type 0) → W → W → Type 0
TellsAmong {W} {A} P gained old new = (xs ys : List A) → P xs → P ys → gained old xs new → gained old ys new → xs ≡ ys

-- A list that is kept grew by these. Once it isn't told, it never is again.
abbrev pub Grows : {A : Type 0} → Option (List A) → List A → Option (List A) → Type 0
Grows old more None = Unit {0}
Grows None more (Some new) = ⊥
Grows (Some old) more (Some new) = new ≡ old ++ more

-- The text begins so.
abbrev pub BeginsWith : List ℕ → List ℕ → Type 0
BeginsWith front whole = (rest : List ℕ) × (whole ≡ front ++ rest)

-- A front of this text was gained.
abbrev pub GainedFront : {K : Type 0} → (K → List ℕ → K → Type 0) → K → List ℕ → K → Type 0
GainedFront gained old text new = (front : List ℕ) × BeginsWith front text × gained old front new
