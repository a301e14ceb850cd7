-- What a service that records its run did, and what it wrote.
use Rattle.std.specs.Prelude.{◌≡◌, ◌⊎◌, ℕ, ◌<◌, Bool, true, false, List, [], ◌∷◌, ◌++◌, length, All}
use Rattle.std.specs.List.{AllByRecursion}
use Rattle.std.specs.declared.option.Option.{Option}
use Rattle.std.specs.declared.option.Option.TheVariants.{None, Some}
use Rattle.dc_model.specs.Cache.{Cache, empty}
use Rattle.dc_model.specs.Event.{Event, IsEvent}
use Rattle.dc_machine.specs.Machine.{wake}
use Rattle.dc_event.specs.History.{Exchange, listened, asked, gave}
use Rattle.dc_event.specs.Told.{BeginsWith}
use Rattle.dc_rules.specs.Settings.{rules_of}
use Rattle.dc_rules.specs.declared.config.Config.{Config}
use Rattle.dc_core.specs.Running.{Running}
use Rattle.dc_trust.specs.Promises.{KeepsPromises}
use Rattle.dc_script.specs.Recording.{event_line}
use Rattle.dc_record.specs.Recorded.{lines_of, HasOctets}
use Rattle.dc_serving.specs.Runs.{run_from}
use Rattle.dc_serving.specs.Serving.{machine_from, machine_passes, ServingFrom, Unheard}
use Rattle.dc_status.specs.declared.status.Status.{Status}
use Rattle.dc_status.specs.declared.status.Status.TheVariants.{WriteFault}

-- How a session ends, by whether each write went well.
abbrev pub status_by : Bool → Status → Status
status_by true ended = ended
status_by false ended = WriteFault

-- Events were served, and the sink gained the lines of exactly these events, in order, behind a head.
pub record Whole {W K : Type 0} (history : W → List Exchange → W → Type 0) (used_up : W → Type 0) (broken : W → ℕ → Type 0) (gained : K → List ℕ → K → Type 0)
    (old new : W) (sink sink' : K) (head : List ℕ) (c : Config) (first : Cache) (seed : List ℕ) (limit : ℕ) (status : Status) (core : Running) : Type 0 where
  pub serving : ServingFrom history used_up broken old new c first seed limit status core
  pub written : gained sink (head ++ lines_of serving.events) sink'
  pub octets : AllByRecursion HasOctets serving.events

-- All that passes where a write failed: the world listened, the machine served these events, and the world gave one more.
abbrev pub passes_until : Config → Cache → List ℕ → List Event → Event → List Exchange
passes_until c first seed events lost =
    listened c.ip c.ipsend true ∷ (machine_passes c first seed events ++ (asked (wake (machine_from c first seed events)) (gave lost) ∷ []))

-- Events were served until a write failed: of the line of one more event, which the world gave last and which wasn't handled, only a front
-- stands behind the lines of the events that were.
pub record Cut {W K : Type 0} (history : W → List Exchange → W → Type 0) (gained : K → List ℕ → K → Type 0)
    (old new : W) (sink sink' : K) (head : List ℕ) (c : Config) (first : Cache) (seed : List ℕ) (limit : ℕ) (core : Running) : Type 0 where
  pub events : List Event
  pub lost : Event
  pub front : List ℕ
  pub bounded : All IsEvent events
  pub octets : AllByRecursion HasOctets events
  pub passed : history old (passes_until c first seed events lost) new
  pub core_is : core ≡ record { rules = rules_of c; machine = machine_from c first seed events; handled = length events }
  pub trust : (size : ℕ) → first ≡ empty size → KeepsPromises (rules_of c).zones (run_from c first seed events)
  pub few : length events < limit
  pub begins : BeginsWith front (event_line lost)
  pub written : gained sink (head ++ (lines_of events ++ front)) sink'

-- Events were served and written, or a write failed.
abbrev pub ServedSo : {W K : Type 0} (history : W → List Exchange → W → Type 0) (used_up : W → Type 0) (broken : W → ℕ → Type 0) (gained : K → List ℕ → K → Type 0)
    (old new : W) (sink sink' : K) (head : List ℕ) (c : Config) (first : Cache) (seed : List ℕ) (limit : ℕ) (status : Status) (core : Running) → Type 0
ServedSo history used_up broken gained old new sink sink' head c first seed limit status core =
    Whole history used_up broken gained old new sink sink' head c first seed limit status core
    ⊎ ((status ≡ WriteFault) × Cut history gained old new sink sink' head c first seed limit core)

-- What became of it behind a head, by the core that it leaves: none, and nothing was served, and nothing but the head was written.
abbrev pub RecordsFrom : {W K : Type 0} (history : W → List Exchange → W → Type 0) (used_up : W → Type 0) (broken : W → ℕ → Type 0) (gained : K → List ℕ → K → Type 0)
    (old new : W) (sink sink' : K) (head : List ℕ) (c : Config) (first : Cache) (seed : List ℕ) (limit : ℕ) (status : Status) → Option Running → Type 0
RecordsFrom history used_up broken gained old new sink sink' head c first seed limit status None = Unheard history old new c status × gained sink head sink'
RecordsFrom history used_up broken gained old new sink sink' head c first seed limit status (Some core) =
    ServedSo history used_up broken gained old new sink sink' head c first seed limit status core
