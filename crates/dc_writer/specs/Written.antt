-- Text that a writer has put into a sink or still holds.
use Rattle.std.specs.Prelude.{◌≡◌, ℕ, ◌+◌, ◌-◌, ◌^◌, min, Bool, true, false, List, [], ◌++◌, length}
use Rattle.dc_event.specs.Causes.{counted as one_more}
use Rattle.dc_event.specs.Told.{GainedFront}
use Rattle.dc_event.specs.declared.answers.Put.{Put}
use Rattle.dc_event.specs.declared.answers.Put.TheVariants.{Taken, Failed}

-- What is held, how many bytes were written, and whether the sink has failed.
pub record Written : Type 0 where
  pub held : List ℕ
  pub count : ℕ
  pub failed : Bool

-- Nothing was written.
abbrev pub unwritten : Written
unwritten = record { held = []; count = 0; failed = false }

-- How many bytes a text has, as far as a `usize` can say.
abbrev pub counted : ℕ → ℕ
counted n = min n (2 ^ 64 - 1)

-- A text was written, where the sink hadn't failed before or had, and hasn't failed now or has: the sink gained all but what is held now,
-- and its count of faults stayed; or a front of what was held and of the text, and the count rose; or it stayed as it was.
abbrev pub Passes : {K : Type 0} → (K → List ℕ → K → Type 0) → (K → ℕ) → Bool → Bool → K → List ℕ → List ℕ → K → List ℕ → Type 0
Passes gained faults false false old held text new left = (front : List ℕ) × gained old front new × (front ++ left ≡ held ++ text) × (faults new ≡ faults old)
Passes gained faults false true old held text new left = GainedFront gained old (held ++ text) new × (faults new ≡ one_more (faults old))
Passes gained faults true false old held text new left = ⊥
Passes gained faults true true old held text new left = new ≡ old

-- A text was written between two states of the writer and of the sink.
pub record Wrote {K : Type 0} (gained : K → List ℕ → K → Type 0) (faults : K → ℕ) (old : Written) (sink_old : K) (text : List ℕ) (new : Written) (sink_new : K) : Type 0 where
  pub passed : Passes gained faults old.failed new.failed sink_old old.held text sink_new new.held
  pub count : counted new.count ≡ counted (old.count + length text)

-- All that is held was put, and this was answered.
abbrev pub Flushes : {K : Type 0} → (K → List ℕ → K → Type 0) → (K → ℕ) → Bool → Put → ℕ → K → List ℕ → K → Type 0
Flushes gained faults false (Taken n) count old held new = gained old held new × (n ≡ counted count) × (faults new ≡ faults old)
Flushes gained faults false Failed count old held new = GainedFront gained old held new × (faults new ≡ one_more (faults old))
Flushes gained faults true (Taken n) count old held new = ⊥
Flushes gained faults true Failed count old held new = new ≡ old

-- A whole text was put, whose length is answered as far as a `usize` can say, or a front of it where the sink failed.
abbrev pub PutWhole : {K : Type 0} → (K → List ℕ → K → Type 0) → Put → K → List ℕ → K → Type 0
PutWhole gained (Taken n) old text new = gained old text new × (n ≡ counted (length text))
PutWhole gained Failed old text new = GainedFront gained old text new
