-- What asking for a word comes to.
use Rattle.std.specs.Prelude.{◌≡◌, ℕ, ◌<◌, false, List, [], ◌∷◌, ◌++◌, length, All}
use Rattle.std.specs.declared.option.Option.{Option}
use Rattle.std.specs.declared.option.Option.TheVariants.{None, Some}
use Rattle.dc_model.specs.Name.{Name}
use Rattle.dc_model.specs.Message.{Message, message_of}
use Rattle.dc_model.specs.Event.{Event, IsEvent}
use Rattle.dc_model.specs.Transmission.{Progress, packet, failed, no_port, Accepted}
use Rattle.dc_engine.specs.Automaton.{state_after, GoesOn}
use Rattle.dc_event.specs.History.{Exchange, asked, ended, failed as broke, bad}
use Rattle.dc_event.specs.Told.{BeginsWith, GainedFront}
use Rattle.dc_event.specs.declared.answers.Put.{Put}
use Rattle.dc_event.specs.declared.answers.Put.TheVariants as put
use Rattle.dc_model.specs.Address.{address_text}
use Rattle.dc_lookup.specs.Text.{line_end}
use Rattle.dc_lookup.specs.Words.{Tool, shown_by}
use Rattle.dc_lookup.specs.Asking.{unasked, is_over_by, ask_wake}
use Rattle.dc_serve.specs.Serve.{each_passes}
use Rattle.dc_stub.specs.Stub.{Stub, stub_machine}
use Rattle.dc_stub.specs.declared.status.ToolStatus.{ToolStatus}
use Rattle.dc_stub.specs.declared.status.ToolStatus.TheVariants.{Done, Usage, NoAnswer, NoPort, Malformed, Ended, Spent, FilesFault, WriteFault, WorldFault, BadScript, NoMemory, ReadFault, LongLine}

-- The text of an address that needs no asking.
abbrev pub own_text : List ℕ → List ℕ
own_text addr = address_text addr ++ (32 ∷ line_end)

-- A text was written, or a front of it where the sink failed.
abbrev pub IsShown : {K : Type 0} → (K → List ℕ → K → Type 0) → Put → K → List ℕ → K → Type 0
IsShown gained (put.Taken n) old text new = gained old text new
IsShown gained put.Failed old text new = GainedFront gained old text new

-- What is told of a packet, and the text that was written: its own text, a front of it, or none where it is no message.
abbrev pub Tells : Tool → Name → ℕ → List ℕ → List ℕ → ToolStatus → Type 0
Tells tool name kind p text Done = (m : Message) × (message_of p ≡ Some m) × (text ≡ shown_by tool name kind p m)
Tells tool name kind p text WriteFault = (m : Message) × (message_of p ≡ Some m) × BeginsWith text (shown_by tool name kind p m)
Tells tool name kind p text Malformed = (message_of p ≡ None) × (text ≡ [])
Tells tool name kind p text Usage = ⊥
Tells tool name kind p text NoAnswer = ⊥
Tells tool name kind p text NoPort = ⊥
Tells tool name kind p text Ended = ⊥
Tells tool name kind p text Spent = ⊥
Tells tool name kind p text FilesFault = ⊥
Tells tool name kind p text WorldFault = ⊥
Tells tool name kind p text (BadScript k) = ⊥
Tells tool name kind p text NoMemory = ⊥
Tells tool name kind p text ReadFault = ⊥
Tells tool name kind p text (LongLine k) = ⊥

-- What is told of a transmission that has ended.
abbrev pub TellsBy : Tool → Name → ℕ → Option Progress → List ℕ → ToolStatus → Type 0
TellsBy tool name kind stands text NoAnswer = (stands ≡ Some failed) × (text ≡ [])
TellsBy tool name kind stands text NoPort = (stands ≡ Some no_port) × (text ≡ [])
TellsBy tool name kind stands text Done = (p : Accepted) × (stands ≡ Some (packet p)) × Tells tool name kind p.packet text Done
TellsBy tool name kind stands text WriteFault = (p : Accepted) × (stands ≡ Some (packet p)) × Tells tool name kind p.packet text WriteFault
TellsBy tool name kind stands text Malformed = (p : Accepted) × (stands ≡ Some (packet p)) × Tells tool name kind p.packet text Malformed
TellsBy tool name kind stands text Usage = ⊥
TellsBy tool name kind stands text Ended = ⊥
TellsBy tool name kind stands text Spent = ⊥
TellsBy tool name kind stands text FilesFault = ⊥
TellsBy tool name kind stands text WorldFault = ⊥
TellsBy tool name kind stands text (BadScript k) = ⊥
TellsBy tool name kind stands text NoMemory = ⊥
TellsBy tool name kind stands text ReadFault = ⊥
TellsBy tool name kind stands text (LongLine k) = ⊥

-- How a word ends: its transmission has ended; or it hasn't, and the world or the limit ended it, or there was no memory for it.
abbrev pub WordEnds : ToolStatus → Tool → Name → ℕ → Option Progress → List ℕ → (count limit : ℕ) → (used_up : Type 0) → (broken : ℕ → Type 0) → Type 0
WordEnds Ended tool name kind stands text count limit used_up broken = (is_over_by stands ≡ false) × (text ≡ []) × (count < limit) × used_up
WordEnds Spent tool name kind stands text count limit used_up broken = (is_over_by stands ≡ false) × (text ≡ []) × (count ≡ limit)
WordEnds (BadScript k) tool name kind stands text count limit used_up broken = (is_over_by stands ≡ false) × (text ≡ []) × (count < limit) × broken k
WordEnds WorldFault tool name kind stands text count limit used_up broken = (is_over_by stands ≡ false) × (text ≡ []) × (count < limit)
WordEnds NoMemory tool name kind stands text count limit used_up broken = (is_over_by stands ≡ false) × (text ≡ []) × (count ≡ 0)
WordEnds status tool name kind stands text count limit used_up broken = TellsBy tool name kind stands text status

-- The call of `next` that gave no event, with its wake, where there was one.
abbrev pub further : ToolStatus → Option ℕ → List Exchange
further Ended wake = asked wake ended ∷ []
further WorldFault wake = asked wake broke ∷ []
further (BadScript k) wake = asked wake (bad k) ∷ []
further status wake = []

-- A stub that nobody was asked yet.
abbrev pub fresh_stub : List (List ℕ) → Name → ℕ → Stub
fresh_stub servers name kind = record { asking = unasked servers name kind; handled = 0 }

-- A word was asked between two states of the world and of the sink: what passed in the world is what passes at the question, whose first
-- event has the random words of number `first`.
pub record Worded {W K : Type 0} (history : W → List Exchange → W → Type 0) (used_up : W → Type 0) (broken : W → ℕ → Type 0)
    (gained : K → List ℕ → K → Type 0) (old new : W) (sink_old sink_new : K)
    (tool : Tool) (servers : List (List ℕ)) (name : Name) (kind : ℕ) (words : ℕ → List ℕ) (first limit : ℕ) (status : ToolStatus)
    (events : List Event) : Type 0 where
  pub passed : history old (each_passes stub_machine words first (fresh_stub servers name kind) events
      ++ further status (ask_wake (state_after stub_machine words first (fresh_stub servers name kind) events).asking)) new
  pub bounded : All IsEvent events
  pub went_on : GoesOn stub_machine words first (fresh_stub servers name kind) events
  pub text : List ℕ
  pub told : gained sink_old text sink_new
  pub ends : WordEnds status tool name kind (state_after stub_machine words first (fresh_stub servers name kind) events).asking.stands text
      (length events) limit (used_up new) (broken new)
