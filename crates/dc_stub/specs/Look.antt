-- What going over the words of a tool comes to.
use Rattle.std.specs.Prelude.{◌≡◌, ℕ, ◌+◌, ◌<◌, ◌⊎◌, false, List, [], ◌∷◌, ◌++◌, length, All}
use Rattle.dc_model.specs.Event.{Event, IsEvent}
use Rattle.dc_event.specs.History.{Exchange, asked, gave, done_all}
use Rattle.dc_event.specs.Told.{BeginsWith}
use Rattle.dc_lookup.specs.Words as words
use Rattle.dc_lookup.specs.Words.{Tool}
use Rattle.dc_lookup.specs.Lookup.{Lookup, Stage, asking, ended, complete, unanswered, portless, unreadable, written, has_ended, look_wake, look_step, lookup_after, WentOn}
use Rattle.dc_stub.specs.Word.{further, own_text}
use Rattle.dc_stub.specs.declared.look.Job.{Job}
use Rattle.dc_stub.specs.declared.look.Job.TheVariants.{Says, Asks}
use Rattle.dc_stub.specs.declared.status.ToolStatus.{ToolStatus}
use Rattle.dc_stub.specs.declared.status.ToolStatus.TheVariants.{Done, Usage, NoAnswer, NoPort, Malformed, Ended, Spent, FilesFault, WriteFault, WorldFault, BadScript, NoMemory, ReadFault, LongLine}

-- A job, as the definitions have it.
abbrev pub job_of : Job → words.Job
job_of (Says addr) = words.says (own_text addr)
job_of (Asks name kind) = words.asks name kind

-- Whether a tool has given up.
abbrev pub HasGivenUp : Stage → Type 0
HasGivenUp (asking a jobs) = ⊥
HasGivenUp (ended complete) = ⊥
HasGivenUp (ended unanswered) = Unit {0}
HasGivenUp (ended portless) = Unit {0}
HasGivenUp (ended unreadable) = Unit {0}

-- What passes at these events, the first of which has the random words of number n: the world is asked with the tool's wake, gives the event,
-- and the event's actions are done.
unfoldable pub look_passes : Tool → (ℕ → List ℕ) → ℕ → Lookup → List Event → List Exchange
look_passes tool words n l [] = []
look_passes tool words n l (e ∷ es) =
    asked (look_wake l) (gave e) ∷ (done_all (look_step tool l e (words n)).actions ++ look_passes tool words (n + 1) (look_step tool l e (words n)).lookup es)

-- How a tool ends, by where it stands behind its events and by the text that was written.
abbrev pub Closes : ToolStatus → Lookup → List ℕ → (count limit : ℕ) → (used_up : Type 0) → (broken : ℕ → Type 0) → Type 0
Closes Done l text count limit used_up broken = (l.stage ≡ ended complete) × (text ≡ written l)
Closes NoAnswer l text count limit used_up broken = (l.stage ≡ ended unanswered) × (text ≡ written l)
Closes NoPort l text count limit used_up broken = (l.stage ≡ ended portless) × (text ≡ written l)
Closes Malformed l text count limit used_up broken = (l.stage ≡ ended unreadable) × (text ≡ written l)
Closes Ended l text count limit used_up broken = (has_ended l ≡ false) × (text ≡ written l) × (count < limit) × used_up
Closes Spent l text count limit used_up broken = (has_ended l ≡ false) × (text ≡ written l) × (count ≡ limit)
Closes (BadScript k) l text count limit used_up broken = (has_ended l ≡ false) × (text ≡ written l) × (count < limit) × broken k
Closes WorldFault l text count limit used_up broken = (has_ended l ≡ false) × (text ≡ written l) × (count < limit)
Closes NoMemory l text count limit used_up broken = (HasGivenUp l.stage → ⊥) × ((text ≡ written l) ⊎ (text ≡ l.told))
Closes WriteFault l text count limit used_up broken = (HasGivenUp l.stage → ⊥) × BeginsWith text (written l)
Closes Usage l text count limit used_up broken = ⊥
Closes FilesFault l text count limit used_up broken = ⊥
Closes ReadFault l text count limit used_up broken = ⊥
Closes (LongLine k) l text count limit used_up broken = ⊥

-- A tool went over its words, from this state on, between two states of the world and of the sink: what passed in the world is what passes
-- at the tool's machine, with the call that gave no event, where there was one.
pub record Looked {W K : Type 0} (history : W → List Exchange → W → Type 0) (used_up : W → Type 0) (broken : W → ℕ → Type 0)
    (gained : K → List ℕ → K → Type 0) (old new : W) (sink_old sink_new : K) (tool : Tool) (start : Lookup) (words : ℕ → List ℕ)
    (limit : ℕ) (status : ToolStatus) : Type 0 where
  pub events : List Event
  pub passed : history old (look_passes tool words 0 start events ++ further status (look_wake (lookup_after tool words 0 start events))) new
  pub bounded : All IsEvent events
  pub went_on : WentOn tool words 0 start events
  pub text : List ℕ
  pub told : gained sink_old text sink_new
  pub closes : Closes status (lookup_after tool words 0 start events) text (length events) limit (used_up new) (broken new)
