-- Lines of an input, taken in whatever pieces it gives.
use Rattle.std.specs.Prelude.{◌≡◌, ℕ, ◌+◌, ◌<◌, ◌≤◌, ◌^◌, ◌⊎◌, Bool, true, false, List, [], ◌∷◌, ◌++◌, length}
use Rattle.std.specs.declared.option.Option.{Option}
use Rattle.std.specs.Io.KnownBytes.{IsAtEnd}
use Rattle.dc_model.specs.Rules.{lines_of}
use Rattle.dc_sieve.specs.declared.input.Read.{Read}
use Rattle.dc_sieve.specs.declared.input.Read.TheVariants.{Line, End, Long, Failed}

-- How many lines were read, whether the end was come to, the last line, and the bytes that were taken and aren't read.
pub record Held : Type 0 where
  pub count : ℕ
  pub ended : Bool
  pub line : List ℕ
  pub rest : List ℕ

-- What may come behind the bytes that were taken: nothing, once the end was come to.
abbrev pub MayCome : Bool → List ℕ → Type 0
MayCome true tail = tail ≡ []
MayCome false tail = Unit {0}

-- A line of the input has at most 4096 bytes.
abbrev pub IsShort : List ℕ → Type 0
IsShort line = length line ≤ 4096

-- A line is too long, or comes behind 2^60 others.
abbrev pub IsTooLong : ℕ → List ℕ → Type 0
IsTooLong before line = (4096 < length line) ⊎ (before ≡ 2 ^ 60)

-- The first line of a text is too long, or comes behind 2^60 others.
pub record NextIsLong (before : ℕ) (text : List ℕ) : Type 0 where
  pub line : List ℕ
  pub behind : List (List ℕ)
  pub lines : lines_of text ≡ line ∷ behind
  pub long : IsTooLong before line

-- The next line of these bytes was read.
pub record ReadsLine (old : Held) (bytes : List ℕ) (new : Held) (left : Option (List ℕ)) : Type 0 where
  pub lines : (tail : List ℕ) → MayCome new.ended tail → lines_of (bytes ++ tail) ≡ new.line ∷ lines_of (new.rest ++ tail)
  pub short : IsShort new.line
  pub few : old.count < 2 ^ 60
  pub count : new.count ≡ old.count + 1
  pub end : new.ended ≡ true → (new.rest ≡ []) × IsAtEnd left
  pub going : old.ended ≡ false

-- All is read.
pub record ReadsEnd (old : Held) (bytes : List ℕ) (new : Held) (left : Option (List ℕ)) : Type 0 where
  pub none : bytes ≡ []
  pub rest : new.rest ≡ []
  pub count : new.count ≡ old.count
  pub ended : new.ended ≡ true
  pub end : IsAtEnd left

-- What was read of these bytes.
abbrev pub Reads : Read → (old : Held) (bytes : List ℕ) (new : Held) (left : Option (List ℕ)) → Type 0
Reads Line old bytes new left = ReadsLine old bytes new left
Reads End old bytes new left = ReadsEnd old bytes new left
Reads (Long k) old bytes new left = (old.ended ≡ false) × (k ≡ old.count + 1) × ((tail : List ℕ) → NextIsLong old.count (bytes ++ tail)) × (new.ended ≡ true → IsAtEnd left)
Reads Failed old bytes new left = (old.ended ≡ false) × (new.rest ≡ bytes) × (new.ended ≡ false)

-- A line that was found is read, unless it is too long or comes behind too many.
abbrev pub Counts : Read → Held → Held → Type 0
Counts Line old new = IsShort old.line × (old.count < 2 ^ 60) × (new ≡ record old { count = old.count + 1 })
Counts (Long k) old new = (k ≡ old.count + 1) × IsTooLong old.count old.line
Counts End old new = ⊥
Counts Failed old new = ⊥

-- Whether the input went well.
abbrev pub well_read : Read → Bool
well_read Line = true
well_read End = true
well_read (Long k) = true
well_read Failed = false
