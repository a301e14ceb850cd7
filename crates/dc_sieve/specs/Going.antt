-- How reading and writing lines goes on.
use Rattle.std.specs.Prelude.{◌≡◌, ℕ, ◌+◌, ◌≤◌, ◌<◌, ◌^◌, ◌⊎◌, true, false, Bool, List, [], ◌∷◌, ◌++◌, length}
use Rattle.std.specs.List.{AllByRecursion}
use Rattle.dc_model.specs.Rules.{lines_of}
use Rattle.dc_event.specs.Told.{BeginsWith}
use Rattle.dc_lookup.specs.Filter.{Slot, Filter, settled}
use Rattle.dc_lookup.specs.Laws.{IsSettled}
use Rattle.dc_filter.specs.Sifter.{Sifter, filter_with}
use Rattle.dc_sieve.specs.Input.{Held, MayCome, IsShort, IsTooLong}
use Rattle.dc_sieve.specs.declared.settle.Settled.{Settled}
use Rattle.dc_sieve.specs.declared.settle.Settled.TheVariants.{Quiet, ReadFault, WriteFault, LongLine}

-- The filter that an engine is, with what was written, and with the lines of these bytes and of those that may come.
abbrev pub filter_at : Sifter → (written bytes tail : List ℕ) → Filter
filter_at s written bytes tail = filter_with s written (lines_of (bytes ++ tail))

-- These lines were read, and this was written, of these bytes: whatever may come behind them, lines are read and written further to the
-- same end.
pub record Goes (s : Sifter) (h : Held) (bytes : List ℕ) (t : Sifter) (j : Held) (text : List ℕ) (past : List (List ℕ)) : Type 0 where
  pub read : (tail : List ℕ) → MayCome j.ended tail → lines_of (bytes ++ tail) ≡ past ++ lines_of (j.rest ++ tail)
  pub settles : (written tail : List ℕ) → MayCome j.ended tail → settled (filter_at s written bytes tail) ≡ settled (filter_at t (written ++ text) j.rest tail)
  pub count : j.count ≡ h.count + length past
  pub short : AllByRecursion IsShort past
  pub same : t ≡ record s { queue = t.queue }

-- The queue keeps its room.
abbrev pub IsWithin : Sifter → Type 0
IsWithin s = length s.queue ≤ s.room

-- Nothing can be read or written now.
abbrev pub IsQuiet : Sifter → Held → Type 0
IsQuiet s h = (written tail : List ℕ) → MayCome h.ended tail → IsSettled (filter_at s written h.rest tail)

-- Where the end was come to before, nothing was taken, and it stays so.
abbrev pub IsLater : Held → (more : List ℕ) → Held → Type 0
IsLater h more j = h.ended ≡ true → (more ≡ []) × (j.ended ≡ true)

-- A front was written of what is to be written.
abbrev pub WritesFront : Sifter → (bytes text : List ℕ) → (ended : Bool) → Type 0
WritesFront s bytes text ended = (written tail : List ℕ) → MayCome ended tail → BeginsWith (written ++ text) (settled (filter_at s written bytes tail)).written

-- The line of number k is the first that is too long or comes behind too many, and it is read.
pub record ReadsLong (s : Sifter) (before : ℕ) (bytes : List ℕ) (k : ℕ) (tail : List ℕ) : Type 0 where
  pub past : List (List ℕ)
  pub line : List ℕ
  pub behind : List (List ℕ)
  pub lines : lines_of (bytes ++ tail) ≡ past ++ (line ∷ behind)
  pub short : AllByRecursion IsShort past
  pub few : before + length past ≤ 2 ^ 60
  pub number : k ≡ (before + length past) + 1
  pub long : IsTooLong (before + length past) line
  pub reached : (written : List ℕ) → length (settled (filter_at s written bytes tail)).unread ≤ length behind

-- How settling ended, between two states, with these bytes to read and this text written.
abbrev pub SettlesSo : Settled → (s : Sifter) (h : Held) (bytes : List ℕ) (t : Sifter) (j : Held) (text : List ℕ) → Type 0
SettlesSo Quiet s h bytes t j text = ((past : List (List ℕ)) × Goes s h bytes t j text past) × IsWithin t × IsQuiet t j × ((j.ended ≡ true) ⊎ (t.room ≤ length t.queue)) × (j.ended ≡ true → j.rest ≡ [])
SettlesSo ReadFault s h bytes t j text = WritesFront s bytes text j.ended
SettlesSo WriteFault s h bytes t j text = WritesFront s bytes text j.ended
SettlesSo (LongLine k) s h bytes t j text = WritesFront s bytes text false × ((tail : List ℕ) → ReadsLong s h.count bytes k tail)

-- Whether the input, and whether the output went well.

abbrev pub well_taken : Settled → Bool
well_taken Quiet = true
well_taken ReadFault = false
well_taken WriteFault = true
well_taken (LongLine k) = true

abbrev pub well_put : Settled → Bool
well_put Quiet = true
well_put ReadFault = true
well_put WriteFault = false
well_put (LongLine k) = true
