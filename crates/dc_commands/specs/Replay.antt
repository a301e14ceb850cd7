-- What replaying a script comes to.
use Rattle.std.specs.Prelude.{◌≡◌, ℕ, ◌+◌, List, [], ◌++◌, take}
use Rattle.std.specs.declared.option.Option.{Option}
use Rattle.std.specs.Io.KnownBytes.{IsAtEnd}
use Rattle.dc_trust.specs.Promises.{KeepsPromises}
use Rattle.dc_event.specs.Told.{BeginsWith}
use Rattle.dc_rules.specs.Settings.{rules_of}
use Rattle.dc_script.specs.Head.{HeadRead, behind, other, head_of, MayFollow}
use Rattle.dc_script.specs.Read.{line_event}
use Rattle.dc_script.specs.Script.{said_from}
use Rattle.dc_script.specs.Text.{text_of}
use Rattle.dc_play.specs.Playing as playing
use Rattle.dc_play.specs.Playing.{outcome_of}
use Rattle.dc_serving.specs.Runs.{run_with, machine_run}
use Rattle.dc_status.specs.Played.{status_of}
use Rattle.dc_status.specs.declared.status.Status.{Status}
use Rattle.dc_status.specs.declared.status.Status.TheVariants.{Done, Spent, Usage, BadVariable, NoRoot, BadZone, BadPermit, FilesFault, SeedShort, ReadFault, WriteFault, BadScript, BadImage, Unequal, WorldFault, NoMemory}

-- How a replay ends where neither input nor output fails, and the text that it writes.
pub record Outcome : Type 0 where
  pub status : Status
  pub text : List ℕ

abbrev pub with_status : playing.Outcome → Outcome
with_status o = record { status = status_of o.answer; text = o.text }

-- What a script comes to, by its head: the first bad line, with no text; or what its events come to.
unfoldable pub outcome : (limit : ℕ) → HeadRead → Outcome
outcome limit (other k) = record { status = BadScript k; text = [] }
outcome limit (behind h k pieces) = with_status (outcome_of (machine_run h.config h.seed) limit (said_from line_event (k + 1) pieces))

-- The text of the events whose lines stand whole behind a whole head.
unfoldable pub whole_text : HeadRead → List ℕ
whole_text (other k) = []
whole_text (behind h k pieces) = text_of (machine_run h.config h.seed (said_from line_event (k + 1) pieces).events)

-- The run that a script asks for keeps its promises, at however many of its events are handled.
unfoldable pub RunsTrusted : HeadRead → Type 0
RunsTrusted (other k) = Unit {0}
RunsTrusted (behind h k pieces) =
    (n : ℕ) → KeepsPromises (rules_of h.config).zones (run_with h.config h.seed (take n (said_from line_event (k + 1) pieces).events))

-- What was promised, the text of the lines that were read whole, the text that was written, and the status: the whole text; or, where the
-- input failed, that of the lines that were read whole; or a front, where the output failed; or nothing, where there wasn't memory enough.
-- Other statuses don't come.
abbrev pub Keeps : Outcome → (whole : List ℕ) → List ℕ → Status → Type 0
Keeps promised whole text Done = (promised.status ≡ Done) × (text ≡ promised.text)
Keeps promised whole text Spent = (promised.status ≡ Spent) × (text ≡ promised.text)
Keeps promised whole text (BadScript k) = (promised.status ≡ BadScript k) × (text ≡ promised.text)
Keeps promised whole text ReadFault = text ≡ whole
Keeps promised whole text WriteFault = BeginsWith text promised.text
Keeps promised whole text NoMemory = text ≡ []
Keeps promised whole text Usage = ⊥
Keeps promised whole text BadImage = ⊥
Keeps promised whole text Unequal = ⊥
Keeps promised whole text (BadVariable v) = ⊥
Keeps promised whole text NoRoot = ⊥
Keeps promised whole text (BadZone f) = ⊥
Keeps promised whole text (BadPermit f) = ⊥
Keeps promised whole text FilesFault = ⊥
Keeps promised whole text SeedShort = ⊥
Keeps promised whole text WorldFault = ⊥

-- What a replay did with its source and its sink: these bytes were taken and this text was written, and whatever may follow the bytes, the
-- text is what was promised of them, and the run that they ask for keeps its promises. It is done only at the end of the source. Where memory is refused, the sink is as it was.
pub record Replayed {S K : Type 0} (took : S → List ℕ → S → Type 0) (left : S → Option (List ℕ)) (gained : K → List ℕ → K → Type 0) (source source' : S) (sink sink' : K)
    (limit : ℕ) (status : Status) : Type 0 where
  pub bytes : List ℕ
  pub text : List ℕ
  pub taken : took source bytes source'
  pub written : gained sink text sink'
  pub keeps : (tail : List ℕ) → MayFollow (left source') tail → Keeps (outcome limit (head_of (bytes ++ tail))) (whole_text (head_of bytes)) text status
  pub trust : (tail : List ℕ) → MayFollow (left source') tail → RunsTrusted (head_of (bytes ++ tail))
  pub end : status ≡ Done → IsAtEnd (left source')
  pub unwritten : status ≡ NoMemory → sink' ≡ sink
