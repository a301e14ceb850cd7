-- Why a replay isn't done.
use Rattle.std.proofs.Common.{◌≡◌, ◌<◌, ◌≤◌, ◌⊎◌, inl, inr, ℕ, ◌+◌, Bool, true, false, cond, leb, List, length, refl, sym, ap, ◌∙◌, subst, Option, Some, None}
use Rattle.std.proofs.lemmas.Bool.{lt-leb}
use Rattle.dc_model.specs.Event.{Event, Action}
use Rattle.dc_script.specs.Head.{Head, HeadRead, behind, other, head_of, ScriptSaid, said_behind}
use Rattle.dc_script.specs.Script.{Said, said_from}
use Rattle.dc_script.specs.Read.{line_event}
use Rattle.dc_play.specs.Playing as playing
use Rattle.dc_play.specs.Playing.{outcome_of}
use Rattle.dc_play.specs.declared.played.Played.TheVariants as played
use Rattle.dc_status.specs.declared.status.Status.{Status}
use Rattle.dc_status.specs.declared.status.Status.TheVariants.{Done, Spent, Usage, BadVariable, NoRoot, BadZone, BadPermit, FilesFault, SeedShort, ReadFault, WriteFault, BadScript, BadImage, Unequal, WorldFault, NoMemory}
use Rattle.dc_status.specs.Played.{status_of}
use Rattle.dc_status.specs.Faults.{fault_of, source_well, sink_well}
use Rattle.dc_serving.specs.Runs.{machine_run}
use Rattle.dc_commands.specs.Replay.{Outcome, Keeps, outcome, with_status}

-- A list that is shorter than the limit is played to its end.
ends : (run : List Event → List Action) (limit : ℕ) (said : Said) → length said.events < limit → said.bad ≡ None → (outcome_of run limit said).answer ≡ played.Done
unfolding outcome_of
ends run limit said few e =
    let short : leb limit (length said.events) ≡ false = lt-leb limit (length said.events) few in
    rw short (ap playing.at_end e)

abbrev none_said : Option Head
none_said = None

abbrev some_said : Head → Option Head
some_said h = Some h

pub whole_done : (read : HeadRead) (h : Head) (events : List Event) (limit : ℕ) → said_behind read ≡ record { head = Some h; said = record { events = events; bad = None } }
    → length events < limit → (outcome limit read).status ≡ Done
unfolding outcome
whole_done (other k) h events limit e few =
    let never : none_said ≡ Some h = ap {A = ScriptSaid} (λ s. s.head) e in cc
whole_done (behind g k pieces) h events limit e few =
    let said : said_from line_event (k + 1) pieces ≡ record { events = events; bad = None } = ap {A = ScriptSaid} (λ s. s.said) e in
    let some : length (said_from line_event (k + 1) pieces).events < limit = subst (λ (s : Said). length s.events < limit) (sym said) few in
    let none : (said_from line_event (k + 1) pieces).bad ≡ None = ap {A = Said} (λ s. s.bad) said in
    ap status_of (ends (machine_run g.config g.seed) limit (said_from line_event (k + 1) pieces) some none)

pub only_faults : (promised : Outcome) (whole text : List ℕ) (status : Status) → promised.status ≡ Done → Keeps promised whole text status
    → source_well (fault_of status) ≡ true → sink_well (fault_of status) ≡ true → (status ≡ Done) ⊎ (status ≡ NoMemory)
only_faults promised whole text Done e k r w = inl refl
only_faults promised whole text Spent e k r w = let other : Spent ≡ Done = sym k.0 ∙ e in cc
only_faults promised whole text (BadScript n) e k r w = let other : BadScript n ≡ Done = sym k.0 ∙ e in cc
only_faults promised whole text ReadFault e k r w = cc
only_faults promised whole text WriteFault e k r w = cc
only_faults promised whole text NoMemory e k r w = inr refl
only_faults promised whole text Usage e k r w = absurd k
only_faults promised whole text BadImage e k r w = absurd k
only_faults promised whole text Unequal e k r w = absurd k
only_faults promised whole text (BadVariable v) e k r w = absurd k
only_faults promised whole text NoRoot e k r w = absurd k
only_faults promised whole text (BadZone f) e k r w = absurd k
only_faults promised whole text (BadPermit f) e k r w = absurd k
only_faults promised whole text FilesFault e k r w = absurd k
only_faults promised whole text SeedShort e k r w = absurd k
only_faults promised whole text WorldFault e k r w = absurd k

-- A script whose head and events are these comes to what they come to.
pub whole_comes : (read : HeadRead) (h : Head) (events : List Event) (limit : ℕ) → said_behind read ≡ record { head = Some h; said = record { events = events; bad = None } }
    → outcome limit read ≡ with_status (outcome_of (machine_run h.config h.seed) limit (record { events = events; bad = None }))
unfolding outcome
whole_comes (other k) h events limit e =
    let never : none_said ≡ Some h = ap {A = ScriptSaid} (λ s. s.head) e in cc
whole_comes (behind g k pieces) h events limit e =
    let said : said_from line_event (k + 1) pieces ≡ record { events = events; bad = None } = ap {A = ScriptSaid} (λ s. s.said) e in
    let same : some_said g ≡ Some h = ap {A = ScriptSaid} (λ s. s.head) e in
    let head : g ≡ h = cc in
    ap (λ (s : Said). with_status (outcome_of (machine_run g.config g.seed) limit s)) said
    ∙ ap (λ (x : Head). with_status (outcome_of (machine_run x.config x.seed) limit (record { events = events; bad = None }))) head
