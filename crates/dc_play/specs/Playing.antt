-- What playing a script to an engine comes to.
use Rattle.std.specs.Prelude.{◌≡◌, ℕ, ◌^◌, Bool, true, false, min, nat_le, if◌then◌else◌, List, ◌++◌, length, take}
use Rattle.std.specs.declared.option.Option.{Option}
use Rattle.std.specs.declared.option.Option.TheVariants.{None, Some}
use Rattle.dc_model.specs.Event.{Event, Action}
use Rattle.dc_engine.specs.Automaton.{Automaton, actions_of}
use Rattle.dc_event.specs.Told.{BeginsWith}
use Rattle.dc_script.specs.Script.{Said}
use Rattle.dc_script.specs.Text.{text_of}
use Rattle.dc_serve.specs.declared.Served.{Served}
use Rattle.dc_serve.specs.declared.Served.TheVariants as served
use Rattle.dc_play.specs.declared.played.Played.{Played}
use Rattle.dc_play.specs.declared.played.Played.TheVariants.{Done, Spent, Bad, ReadFault, WriteFault}

-- What a run does: the opening, and then what is done at each event.
abbrev pub run_of : {S : Type 0} → Automaton S → (ℕ → List ℕ) → S → List Event → List Action
run_of m words s events = m.opening s ++ actions_of m words 0 s events

-- How playing ends where neither input nor output fails, and the text that is written.
pub record Outcome : Type 0 where
  pub answer : Played
  pub text : List ℕ

-- A call handles at most 2^60 events.
abbrev pub limit_of : ℕ → ℕ
limit_of turns = min turns (2 ^ 60)

-- How it ends at the end of the events: with the script, or at its first bad line.
abbrev pub at_end : Option ℕ → Played
at_end None = Done
at_end (Some k) = Bad k

-- What these events come to: the actions of a run, at as many of them as are allowed.
unfoldable pub outcome_of : (run : List Event → List Action) → (limit : ℕ) → Said → Outcome
outcome_of run limit said =
    if nat_le limit (length said.events)
    then record { answer = Spent; text = text_of (run (take limit said.events)) }
    else record { answer = at_end said.bad; text = text_of (run said.events) }

-- What was promised, the text of the events whose lines were read whole, the text that was written, and the answer: the whole text; or,
-- where the input failed, that of the lines that were read whole; or a front, where the output failed.
abbrev pub Keeps : Outcome → (whole : List ℕ) → List ℕ → Played → Type 0
Keeps promised whole text Done = (promised.answer ≡ Done) × (text ≡ promised.text)
Keeps promised whole text Spent = (promised.answer ≡ Spent) × (text ≡ promised.text)
Keeps promised whole text (Bad k) = (promised.answer ≡ Bad k) × (text ≡ promised.text)
Keeps promised whole text ReadFault = text ≡ whole
Keeps promised whole text WriteFault = BeginsWith text promised.text

-- The answer behind the loop, where every write went well or one failed.
abbrev pub answer_from : Served → Bool → Played
answer_from answer false = WriteFault
answer_from served.Finished true = Done
answer_from served.Spent true = Spent
answer_from served.Ended true = Done
answer_from served.Failed true = ReadFault
answer_from (served.Bad line) true = Bad line

-- Whether the input went well, and whether the output did.

abbrev pub reads_well : Played → Bool
reads_well Done = true
reads_well Spent = true
reads_well (Bad line) = true
reads_well ReadFault = false
reads_well WriteFault = true

abbrev pub writes_well : Played → Bool
writes_well Done = true
writes_well Spent = true
writes_well (Bad line) = true
writes_well ReadFault = true
writes_well WriteFault = false
