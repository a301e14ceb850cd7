-- What filtering an input comes to.
use Rattle.std.specs.Prelude.{◌≡◌, ℕ, ◌+◌, ◌-◌, ◌<◌, ◌≤◌, ◌^◌, ◌⊎◌, Bool, true, false, List, [], ◌∷◌, ◌++◌, length, take, All}
use Rattle.std.specs.List.{AllByRecursion}
use Rattle.std.specs.declared.option.Option.{Option}
use Rattle.std.specs.declared.option.Option.TheVariants.{Some}
use Rattle.std.specs.Io.KnownBytes.{IsAtEnd}
use Rattle.dc_model.specs.Rules.{lines_of}
use Rattle.dc_model.specs.Event.{Event, IsEvent}
use Rattle.dc_event.specs.History.{Exchange}
use Rattle.dc_event.specs.Told.{BeginsWith}
use Rattle.dc_lookup.specs.Filter.{Filter, filter_opened, filter_after, filter_wake, FilterWentOn, is_at_end}
use Rattle.dc_script.specs.Head.{MayFollow}
use Rattle.dc_filter.specs.Sifter.{Sifter}
use Rattle.dc_filter.specs.Serving.{filter_passes}
use Rattle.dc_sieve.specs.Input.{Held, IsShort, IsTooLong}
use Rattle.dc_stub.specs.Word.{further}
use Rattle.dc_stub.specs.declared.status.ToolStatus.{ToolStatus}
use Rattle.dc_stub.specs.declared.status.ToolStatus.TheVariants.{Done, Usage, NoAnswer, NoPort, Malformed, Ended, Spent, FilesFault, WriteFault, WorldFault, BadScript, NoMemory, ReadFault, LongLine}

-- An engine without lines, and an input of which nothing was read.

abbrev pub fresh_sifter : (room : ℕ) → (servers : List (List ℕ)) → Sifter
fresh_sifter room servers = record { room = room; servers = servers; queue = []; links = 0; handled = 0 }

abbrev pub fresh_input : Held
fresh_input = record { count = 0; ended = false; line = []; rest = [] }

-- The lines that a filter has read of these.
abbrev pub lines_read : List (List ℕ) → Filter → List (List ℕ)
lines_read lines f = take (length lines - length f.unread) lines

-- None of them is too long or comes behind 2^60 others.
pub record AreReadable (lines : List (List ℕ)) (f : Filter) : Type 0 where
  pub short : AllByRecursion IsShort (lines_read lines f)
  pub few : length (lines_read lines f) ≤ 2 ^ 60

-- The line of number k is the first that is too long or comes behind 2^60 others, and it is among those that were read.
pub record IsLong (lines : List (List ℕ)) (f : Filter) (k : ℕ) : Type 0 where
  pub past : List (List ℕ)
  pub line : List ℕ
  pub behind : List (List ℕ)
  pub parts : lines ≡ past ++ (line ∷ behind)
  pub short : AllByRecursion IsShort past
  pub few : length past ≤ 2 ^ 60
  pub number : k ≡ length past + 1
  pub long : IsTooLong (length past) line
  pub reached : length f.unread ≤ length behind

-- How filtering ends, by the lines of the input, by where the filter stands behind its events, and by the text that was written.
abbrev pub Closes : ToolStatus → (lines : List (List ℕ)) → Filter → (text : List ℕ) → (count limit : ℕ) → (used_up : Type 0) → (broken : ℕ → Type 0) → (at_end : Type 0) → Type 0
Closes Done lines f text count limit used_up broken at_end = (is_at_end f ≡ true) × (text ≡ f.written) × AreReadable lines f × at_end
Closes Ended lines f text count limit used_up broken at_end = (is_at_end f ≡ false) × (text ≡ f.written) × AreReadable lines f × (count < limit) × used_up
Closes Spent lines f text count limit used_up broken at_end = (is_at_end f ≡ false) × (text ≡ f.written) × AreReadable lines f × (count ≡ limit)
Closes (BadScript k) lines f text count limit used_up broken at_end = (is_at_end f ≡ false) × (text ≡ f.written) × AreReadable lines f × (count < limit) × broken k
Closes WorldFault lines f text count limit used_up broken at_end = (is_at_end f ≡ false) × (text ≡ f.written) × AreReadable lines f × (count < limit)
Closes ReadFault lines f text count limit used_up broken at_end = BeginsWith text f.written
Closes WriteFault lines f text count limit used_up broken at_end = BeginsWith text f.written
Closes (LongLine k) lines f text count limit used_up broken at_end = BeginsWith text f.written × IsLong lines f k
Closes Usage lines f text count limit used_up broken at_end = ⊥
Closes NoAnswer lines f text count limit used_up broken at_end = ⊥
Closes NoPort lines f text count limit used_up broken at_end = ⊥
Closes Malformed lines f text count limit used_up broken at_end = ⊥
Closes FilesFault lines f text count limit used_up broken at_end = ⊥
Closes NoMemory lines f text count limit used_up broken at_end = ⊥

-- The filter over an input of these bytes.
abbrev pub start_of : (room : ℕ) → (servers : List (List ℕ)) → (input : List ℕ) → Filter
start_of room servers input = filter_opened room servers (lines_of input)

-- The filter went over the lines of an input of these bytes at these events: what passed in the world is what passes at it, it wasn't at
-- its end before any event, and it ended so.
pub record Filters {W : Type 0} (history : W → List Exchange → W → Type 0) (old new : W) (words : ℕ → List ℕ) (lines : List (List ℕ)) (start : Filter) (events : List Event) (text : List ℕ) (limit : ℕ)
    (used_up : Type 0) (broken : ℕ → Type 0) (at_end : Type 0) (status : ToolStatus) : Type 0 where
  pub passed : history old (filter_passes words 0 start events ++ further status (filter_wake (filter_after words 0 start events))) new
  pub went_on : FilterWentOn words 0 start events
  pub closes : Closes status lines (filter_after words 0 start events) text (length events) limit used_up broken at_end

-- What filtering did: these bytes were taken, this text was written and these events were heard; and whatever may follow the bytes, the
-- filter went over the lines of all of it.
pub record Sifted {S K W : Type 0} (took : S → List ℕ → S → Type 0) (left : S → Option (List ℕ)) (gained : K → List ℕ → K → Type 0) (history : W → List Exchange → W → Type 0) (used_up : W → Type 0) (broken : W → ℕ → Type 0)
    (source source' : S) (sink sink' : K) (old new : W) (room : ℕ) (servers : List (List ℕ)) (words : ℕ → List ℕ) (limit : ℕ) (status : ToolStatus) : Type 0 where
  pub bytes : List ℕ
  pub text : List ℕ
  pub events : List Event
  pub bounded : All IsEvent events
  pub taken : took source bytes source'
  pub told : gained sink text sink'
  pub keeps : (tail : List ℕ) → MayFollow (left source') tail
      → Filters history old new words (lines_of (bytes ++ tail)) (start_of room servers (bytes ++ tail)) events text limit (used_up new) (broken new) (IsAtEnd (left source')) status
