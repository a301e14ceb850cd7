-- Lines of a source, taken in whatever pieces it gives.
use Rattle.std.specs.Prelude.{◌≡◌, ◌≢◌, ℕ, Bool, true, false, ◌+◌, ◌<◌, ◌≤◌, List, ◌∷◌, ◌++◌, length, take, slice_index}
use Rattle.std.specs.declared.option.Option.{Option}
use Rattle.std.specs.Io.KnownBytes.{IsAtEnd}
use Rattle.dc_event.specs.declared.answers.Taken.{Taken}
use Rattle.dc_event.specs.declared.answers.Taken.TheVariants as taken
use Rattle.dc_script.specs.Script.{most_line}
use Rattle.dc_script.specs.declared.lines.NextLine.{NextLine}
use Rattle.dc_script.specs.declared.lines.NextLine.TheVariants.{Found, TooLong, Ended, Failed}

-- The last line that was found, and the bytes that were taken and aren't read.
pub record Held : Type 0 where
  pub line : List ℕ
  pub rest : List ℕ

-- There is no line feed in it.
abbrev pub IsOneLine : List ℕ → Type 0
IsOneLine text = (k : ℕ) → k < length text → slice_index text k ≢ 10

-- What is found in these bytes: their first line; that it is too long; or that they have no whole line, and the source is at its
-- end, or failed.
abbrev pub Finds : NextLine → List ℕ → Held → (left : Option (List ℕ)) → Type 0
Finds Found bytes new left = (bytes ≡ new.line ++ (10 ∷ new.rest)) × IsOneLine new.line × (length new.line ≤ most_line)
Finds TooLong bytes new left = (new.rest ≡ bytes) × (most_line < length bytes) × IsOneLine (take (most_line + 1) bytes)
Finds Ended bytes new left = (new.rest ≡ bytes) × IsOneLine bytes × IsAtEnd left
Finds Failed bytes new left = (new.rest ≡ bytes) × IsOneLine bytes

-- Between two states of a source some bytes were taken, and only where no whole line was held. This was found in what was held
-- and them.
pub record FindsIn {S : Type 0} (took : S → List ℕ → S → Type 0) (left : S → Option (List ℕ)) (answer : NextLine) (old : Held) (source : S) (new : Held) (after : S) (more : List ℕ) : Type 0 where
  pub taken : took source more after
  pub late : 0 < length more → IsOneLine old.rest
  pub finds : Finds answer (old.rest ++ more) new (left after)

abbrev pub FindsNext : {S : Type 0} → (S → List ℕ → S → Type 0) → (S → Option (List ℕ)) → NextLine → Held → S → Held → S → Type 0
FindsNext took left answer old source new after = (more : List ℕ) × FindsIn took left answer old source new after more

-- Whether the source went well.
abbrev pub well_line : NextLine → Bool
well_line Found = true
well_line TooLong = true
well_line Ended = true
well_line Failed = false

-- How many bytes were taken.
abbrev pub count_of : Taken → ℕ
count_of (taken.Bytes n) = n
count_of taken.Failed = 0
