-- What serving comes to.
use Rattle.std.specs.Prelude.{◌≡◌, ◌↔◌, ℕ, ◌<◌, true, false, List, [], ◌∷◌, ◌++◌, length, flat_map, All}
use Rattle.std.specs.declared.option.Option.{Option}
use Rattle.std.specs.declared.option.Option.TheVariants.{None, Some}
use Rattle.std.specs.Io.KnownBytes.{IsAtEnd}
use Rattle.std.specs.Prelude.{Result, Ok, Err}
use Rattle.dc_model.specs.Cache.{Cache, empty}
use Rattle.dc_model.specs.Event.{Event, IsEvent, line}
use Rattle.dc_model.specs.Line.{line_starting}
use Rattle.dc_machine.specs.Machine.{Machine, wake}
use Rattle.dc_machine.specs.Run.{Taken, opening, last_of}
use Rattle.dc_rules.specs.Settings.{rules_of}
use Rattle.dc_rules.specs.declared.config.Config.{Config}
use Rattle.dc_event.specs.History.{Exchange, listened, asked, did, gave, ended, failed, bad, done_all}
use Rattle.dc_config.specs.Environment.{Environment}
use Rattle.dc_config.specs.Tree.{Tree}
use Rattle.dc_config.specs.Conf.{conf_of}
use Rattle.dc_config.specs.Variables.{bad_variable}
use Rattle.dc_config.specs.declared.error.Variable.{Variable as Named}
use Rattle.dc_config.specs.declared.error.ConfigError.{ConfigError}
use Rattle.dc_config.specs.declared.error.ConfigError.TheVariants as config
use Rattle.dc_core.specs.Running.{Running}
use Rattle.dc_trust.specs.Promises.{KeepsPromises}
use Rattle.dc_serving.specs.Runs.{cache_of, run_from}
use Rattle.dc_serve.specs.declared.Served.{Served as Answer}
use Rattle.dc_serve.specs.declared.Served.TheVariants as served
use Rattle.dc_status.specs.declared.status.Status.{Status}
use Rattle.dc_status.specs.declared.status.Status.TheVariants.{Done, Spent, Usage, BadVariable, NoRoot, BadZone, BadPermit, FilesFault, SeedShort, ReadFault, WriteFault, BadScript, BadImage, Unequal, WorldFault, NoMemory}

-- The machine behind these events, from a first cache.
unfoldable pub machine_from : Config → Cache → List ℕ → List Event → Machine
machine_from c first seed events = last_of (opening first) (run_from c first seed events)

-- What passes at one event of a run: the world is asked with the machine's wake, gives the event, and the event's actions are done.
abbrev pub at_event : Taken → List Exchange
at_event t = asked (wake t.before) (gave t.event) ∷ done_all t.stepped.actions

-- What passes while the machine serves these events, from a first cache: the opening line is written, and then each event is handled.
unfoldable pub machine_passes : Config → Cache → List ℕ → List Event → List Exchange
machine_passes c first seed events = did (line line_starting) ∷ flat_map at_event (run_from c first seed events)

-- The call of `next` that gave no event, where there was one.
abbrev pub last_passes : Status → Machine → List Exchange
last_passes Done m = asked (wake m) ended ∷ []
last_passes (BadScript k) m = asked (wake m) (bad k) ∷ []
last_passes WorldFault m = asked (wake m) failed ∷ []
last_passes status m = []

-- All that passes in a session that begins with a first cache: the world listens on the configured addresses, the machine serves these
-- events, and then no event is given, where the session ended so.
abbrev pub passes_from : Config → Cache → List ℕ → List Event → Status → List Exchange
passes_from c first seed events status =
    listened c.ip c.ipsend true ∷ (machine_passes c first seed events ++ last_passes status (machine_from c first seed events))

-- The same, where the cache is empty at first.
abbrev pub session_passes : Config → List ℕ → List Event → Status → List Exchange
session_passes c seed events status = passes_from c (cache_of c) seed events status

-- How serving ends: by what the world answered last, or where as many events were handled as are allowed.
abbrev pub Closes : Status → (count limit : ℕ) → (used_up : Type 0) → (broken : ℕ → Type 0) → Type 0
Closes Done count limit used_up broken = (count < limit) × used_up
Closes Spent count limit used_up broken = count ≡ limit
Closes (BadScript k) count limit used_up broken = (count < limit) × broken k
Closes WorldFault count limit used_up broken = count < limit
Closes Usage count limit used_up broken = ⊥
Closes BadImage count limit used_up broken = ⊥
Closes Unequal count limit used_up broken = ⊥
Closes (BadVariable v) count limit used_up broken = ⊥
Closes NoRoot count limit used_up broken = ⊥
Closes (BadZone f) count limit used_up broken = ⊥
Closes (BadPermit f) count limit used_up broken = ⊥
Closes FilesFault count limit used_up broken = ⊥
Closes SeedShort count limit used_up broken = ⊥
Closes ReadFault count limit used_up broken = ⊥
Closes WriteFault count limit used_up broken = ⊥
Closes NoMemory count limit used_up broken = ⊥

-- Events were served between two states of the world, with a configuration and a seed, by a core that began with a first cache: this passed,
-- and the core is that of the machine. Where the first cache was empty, the run keeps its promises.
pub record ServingFrom {W : Type 0} (history : W → List Exchange → W → Type 0) (used_up : W → Type 0) (broken : W → ℕ → Type 0)
    (old new : W) (c : Config) (first : Cache) (seed : List ℕ) (limit : ℕ) (status : Status) (core : Running) : Type 0 where
  pub events : List Event
  pub bounded : All IsEvent events
  pub passed : history old (passes_from c first seed events status) new
  pub core_is : core ≡ record { rules = rules_of c; machine = machine_from c first seed events; handled = length events }
  pub trust : (size : ℕ) → first ≡ empty size → KeepsPromises (rules_of c).zones (run_from c first seed events)
  pub closes : Closes status (length events) limit (used_up new) (broken new)

-- The same, where the cache was empty at first.
abbrev pub Serving : {W : Type 0} (history : W → List Exchange → W → Type 0) (used_up : W → Type 0) (broken : W → ℕ → Type 0)
    (old new : W) (c : Config) (seed : List ℕ) (limit : ℕ) (status : Status) (core : Running) → Type 0
Serving history used_up broken old new c seed limit status core = ServingFrom history used_up broken old new c (cache_of c) seed limit status core

-- Why nothing was served, with a configuration and a seed: there wasn't memory enough, and the world wasn't asked for anything; or it was asked
-- once to listen on the configured addresses, and failed.
abbrev pub Unheard : {W : Type 0} (history : W → List Exchange → W → Type 0) (old new : W) → Config → Status → Type 0
Unheard history old new c NoMemory = history old [] new
Unheard history old new c WorldFault = history old (listened c.ip c.ipsend false ∷ []) new
Unheard history old new c status = ⊥

-- What became of serving with a configuration, a first cache and a seed, by the core that it leaves.
abbrev pub ServesFrom : {W : Type 0} (history : W → List Exchange → W → Type 0) (used_up : W → Type 0) (broken : W → ℕ → Type 0)
    (old new : W) (c : Config) (first : Cache) (seed : List ℕ) (limit : ℕ) (status : Status) → Option Running → Type 0
ServesFrom history used_up broken old new c first seed limit status None = Unheard history old new c status
ServesFrom history used_up broken old new c first seed limit status (Some core) = ServingFrom history used_up broken old new c first seed limit status core

-- The configuration is the one that is defined, where the files tell it.
abbrev pub IsConfigured : Environment → Option Tree → Config → Type 0
IsConfigured env tree c = (t : Tree) → tree ≡ Some t → conf_of env t ≡ Ok c

-- What passed where nothing was served: nothing, or the world was asked once to listen on the configured addresses, and failed.
abbrev pub Unserved : {W : Type 0} (history : W → List Exchange → W → Type 0) (old new : W) (configured : Config → Type 0) → Status → Type 0
Unserved history old new configured WorldFault = (c : Config) × configured c × history old (listened c.ip c.ipsend false ∷ []) new
Unserved history old new configured status = history old [] new

-- Why nothing was served, by the bytes that were taken of the source: nothing was taken where the configuration was refused.
abbrev pub Refused : Status → (taken : List ℕ) → (left : Option (List ℕ)) → Type 0
Refused (BadVariable v) taken left = taken ≡ []
Refused NoRoot taken left = taken ≡ []
Refused (BadZone f) taken left = taken ≡ []
Refused (BadPermit f) taken left = taken ≡ []
Refused FilesFault taken left = taken ≡ []
Refused SeedShort taken left = (length taken < 32) × IsAtEnd left
Refused ReadFault taken left = length taken < 32
Refused WorldFault taken left = length taken ≡ 32
Refused NoMemory taken left = Unit {0}
Refused Done taken left = ⊥
Refused Spent taken left = ⊥
Refused Usage taken left = ⊥
Refused WriteFault taken left = ⊥
Refused (BadScript k) taken left = ⊥
Refused BadImage taken left = ⊥
Refused Unequal taken left = ⊥

-- The status fits what is defined of the configuration: where it is refused, that is the status, but for a fault of the files and want of
-- memory; where it isn't, it isn't refused.
abbrev pub FitsConf : Status → Result Config ConfigError → Type 0
FitsConf (BadVariable v) conf = conf ≡ Err (config.BadVariable v)
FitsConf NoRoot conf = conf ≡ Err config.NoRoot
FitsConf (BadZone f) conf = conf ≡ Err (config.BadZone f)
FitsConf (BadPermit f) conf = conf ≡ Err (config.BadPermit f)
FitsConf FilesFault conf = Unit {0}
FitsConf NoMemory conf = Unit {0}
FitsConf SeedShort conf = (c : Config) × (conf ≡ Ok c)
FitsConf ReadFault conf = (c : Config) × (conf ≡ Ok c)
FitsConf WorldFault conf = (c : Config) × (conf ≡ Ok c)
FitsConf Done conf = (c : Config) × (conf ≡ Ok c)
FitsConf Spent conf = (c : Config) × (conf ≡ Ok c)
FitsConf (BadScript k) conf = (c : Config) × (conf ≡ Ok c)
FitsConf Usage conf = ⊥
FitsConf WriteFault conf = ⊥
FitsConf BadImage conf = ⊥
FitsConf Unequal conf = ⊥

-- What a session is, by the core that it leaves: none, and nothing was served; or one, and the seed was taken, and events were served with
-- the configuration.
abbrev pub IsSession : {W : Type 0} (history : W → List Exchange → W → Type 0) (used_up : W → Type 0) (broken : W → ℕ → Type 0)
    (old new : W) (configured : Config → Type 0) (taken : List ℕ) (left : Option (List ℕ)) (limit : ℕ) (status : Status) → Option Running → Type 0
IsSession history used_up broken old new configured taken left limit status None = Refused status taken left × Unserved history old new configured status
IsSession history used_up broken old new configured taken left limit status (Some core) =
    (c : Config) × configured c × (length taken ≡ 32) × Serving history used_up broken old new c taken limit status core

-- What serving did with its source and its world: these bytes were taken, and this is the session. Where the files tell what they hold, the
-- status fits the configuration. A bad variable is told exactly where there is one.
pub record Served {S W : Type 0} (took : S → List ℕ → S → Type 0) (left : S → Option (List ℕ)) (history : W → List Exchange → W → Type 0) (used_up : W → Type 0) (broken : W → ℕ → Type 0)
    (env : Environment) (tree : Option Tree) (source source' : S) (world world' : W) (limit : ℕ) (status : Status) (core : Option Running) : Type 0 where
  pub bytes : List ℕ
  pub taken : took source bytes source'
  pub session : IsSession history used_up broken world world' (IsConfigured env tree) bytes (left source') limit status core
  pub conf : (t : Tree) → tree ≡ Some t → FitsConf status (conf_of env t)
  pub variable : (v : Named) → (status ≡ BadVariable v) ↔ (bad_variable env ≡ Some v)

-- The status behind the loop. The core is never finished.
abbrev pub status_from : Answer → Status
status_from served.Finished = Done
status_from served.Ended = Done
status_from served.Spent = Spent
status_from served.Failed = WorldFault
status_from (served.Bad k) = BadScript k

-- A fault of files, source or world, or want of memory.
abbrev pub IsFault : Status → Type 0
IsFault FilesFault = Unit {0}
IsFault ReadFault = Unit {0}
IsFault WorldFault = Unit {0}
IsFault NoMemory = Unit {0}
IsFault Done = ⊥
IsFault Spent = ⊥
IsFault Usage = ⊥
IsFault (BadVariable v) = ⊥
IsFault NoRoot = ⊥
IsFault (BadZone f) = ⊥
IsFault (BadPermit f) = ⊥
IsFault SeedShort = ⊥
IsFault WriteFault = ⊥
IsFault (BadScript k) = ⊥
IsFault BadImage = ⊥
IsFault Unequal = ⊥
