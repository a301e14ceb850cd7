-- What serving over several cores comes to.
use Rattle.std.specs.Prelude.{◌≡◌, ◌↔◌, ◌⊎◌, ℕ, ◌≤◌, true, List, [], ◌∷◌, ◌++◌, length, replicate, All, Result}
use Rattle.std.specs.declared.option.Option.{Option}
use Rattle.std.specs.declared.option.Option.TheVariants.{None, Some}
use Rattle.dc_model.specs.Cache.{empty}
use Rattle.dc_model.specs.Draws.{draws_of}
use Rattle.dc_model.specs.Event.{Event, IsEvent, line}
use Rattle.dc_model.specs.Line.{line_starting}
use Rattle.dc_machine.specs.Machine.{Machine}
use Rattle.dc_machine.specs.Run.{opening}
use Rattle.dc_engine.specs.Automaton.{Automaton}
use Rattle.dc_event.specs.History.{Exchange, listened, asked, ended, failed, bad, events_in, actions_in}
use Rattle.dc_rules.specs.Settings.{rules_of}
use Rattle.dc_rules.specs.declared.config.Config.{Config}
use Rattle.dc_config.specs.Environment.{Environment}
use Rattle.dc_config.specs.Tree.{Tree}
use Rattle.dc_config.specs.Conf.{conf_of}
use Rattle.dc_config.specs.Modes.{cores_in, bad_split}
use Rattle.dc_config.specs.declared.error.Variable.{Variable as Named}
use Rattle.dc_config.specs.declared.error.ConfigError.{ConfigError}
use Rattle.dc_core.specs.Running.{Running}
use Rattle.dc_split.specs.Split.{split}
use Rattle.dc_split.specs.Resolver.{resolver, part_size, cores_of, split_last, split_actions}
use Rattle.dc_shard.specs.Follows.{Point, Follows}
use Rattle.dc_shard.specs.declared.served.ShardServed.{ShardServed}
use Rattle.dc_shard.specs.declared.served.ShardServed.TheVariants as served
use Rattle.dc_serving.specs.Serving.{IsConfigured, Unserved, Refused, Closes, FitsConf}
use Rattle.dc_status.specs.declared.status.Status.{Status}
use Rattle.dc_status.specs.declared.status.Status.TheVariants.{Done, Spent, BadVariable, BadScript, WorldFault, NoMemory}
use Rattle.dc_shards.specs.Cores.{HaveRules, machines}

-- The cores

-- A core that has handled nothing, with a configuration's rules and its part of the cache, where so many share it.
abbrev pub core_opening : (cores : ℕ) → Config → Running
core_opening cores c = record { rules = rules_of c; machine = opening (empty (part_size cores c.size)); handled = 0 }

-- All of them.
abbrev pub cores_opening : (cores : ℕ) → Config → List Running
cores_opening cores c = replicate cores (core_opening cores c)

-- The run

-- The resolver's machine over several cores, with the rules of a configuration.
abbrev pub split_machine : Config → Automaton (List Machine)
split_machine c = split (resolver (rules_of c))

-- The point at which it opens: the opening line is due.
abbrev pub split_opens : (cores : ℕ) → Config → Point (List Machine)
split_opens cores c = record { number = 0; state = cores_of cores c.size; due = line line_starting ∷ [] }

-- The call of `next` that gave no event, where there was one, with this wake.
abbrev pub last_asks : Status → Option ℕ → List Exchange
last_asks Done wake = asked wake ended ∷ []
last_asks (BadScript k) wake = asked wake (bad k) ∷ []
last_asks WorldFault wake = asked wake failed ∷ []
last_asks status wake = []

-- Events were served by several cores between two states of the world, with a configuration and a seed:
--   the world listened on the configured addresses, then this passed, and then no event was given, where the session ended so;
--   the split machine followed it: each asking was with its least wake, behind all actions that were due, and the actions came in order;
--   so what was done are the actions of the split run of the events that were handed out, and the cores are those of its last state.
pub record SplitServing {W : Type 0} (history : W → List Exchange → W → Type 0) (used_up : W → Type 0) (broken : W → ℕ → Type 0)
    (old new : W) (c : Config) (cores : ℕ) (seed : List ℕ) (limit : ℕ) (status : Status) (finals : List Running) : Type 0 where
  pub passed : List Exchange
  pub end : Point (List Machine)
  pub bounded : All IsEvent (events_in passed)
  pub happened : history old (listened c.ip c.ipsend true ∷ (passed ++ last_asks status ((split_machine c).wake (machines finals)))) new
  pub follows : Follows (split_machine c) (draws_of seed) (split_opens cores c) passed end
  pub acts : actions_in passed ≡ split_actions (rules_of c) (draws_of seed) (cores_of cores c.size) (events_in passed)
  pub cores_are : machines finals ≡ split_last (rules_of c) (draws_of seed) (cores_of cores c.size) (events_in passed)
  pub rules_are : HaveRules (rules_of c) finals
  pub closes : Closes status (length (events_in passed)) limit (used_up new) (broken new)

-- Memory was wanting in a round: the split machine followed what passed, of which is done all that is due at the events of the rounds
-- before, and nothing of what is due at the round's own.
pub record BrokenOff {W : Type 0} (history : W → List Exchange → W → Type 0) (old new : W) (c : Config) (cores : ℕ) (seed : List ℕ) (limit : ℕ) : Type 0 where
  pub passed : List Exchange
  pub end : Point (List Machine)
  pub bounded : All IsEvent (events_in passed)
  pub happened : history old (listened c.ip c.ipsend true ∷ passed) new
  pub follows : Follows (split_machine c) (draws_of seed) (split_opens cores c) passed end
  pub before : List Event
  pub round : List Event
  pub events : events_in passed ≡ before ++ round
  pub acts : actions_in passed ≡ split_actions (rules_of c) (draws_of seed) (cores_of cores c.size) before
  pub within : length (events_in passed) ≤ limit

-- The session

-- Events were served, though memory was wanting in a round.
abbrev pub IsBrokenOff : {W : Type 0} (history : W → List Exchange → W → Type 0) (old new : W) (env : Environment) (configured : Config → Type 0)
    (taken : List ℕ) (limit : ℕ) → Status → Type 0
IsBrokenOff history old new env configured taken limit status =
    (status ≡ NoMemory) × ((c : Config) × ((cores : ℕ) × (configured c × ((cores_in env ≡ Some cores) × ((length taken ≡ 32) × BrokenOff history old new c cores taken limit)))))

-- What a session is, by the cores that it leaves: none, and nothing was served, or memory was wanting in a round; or some, and the seed was
-- taken, and events were served with the configuration, by as many cores as CORES says.
abbrev pub IsSplitSession : {W : Type 0} (history : W → List Exchange → W → Type 0) (used_up : W → Type 0) (broken : W → ℕ → Type 0)
    (old new : W) (env : Environment) (configured : Config → Type 0) (taken : List ℕ) (left : Option (List ℕ)) (limit : ℕ) → Status → Option (List Running) → Type 0
IsSplitSession history used_up broken old new env configured taken left limit status None =
    (Refused status taken left × Unserved history old new configured status) ⊎ IsBrokenOff history old new env configured taken limit status
IsSplitSession history used_up broken old new env configured taken left limit status (Some finals) =
    (c : Config) × ((cores : ℕ) × (configured c × ((cores_in env ≡ Some cores) × ((length taken ≡ 32) × SplitServing history used_up broken old new c cores taken limit status finals))))

-- The status fits what is defined of the configuration. A bad variable is refused before it, and says nothing of it.
abbrev pub FitsSplit : Status → Result Config ConfigError → Type 0
FitsSplit (BadVariable v) conf = Unit {0}
FitsSplit status conf = FitsConf status conf

-- What serving over several cores did with its source and its world: these bytes were taken, and this is the session. Where the files tell
-- what they hold, the status fits the configuration. A bad variable is told exactly where there is one, CORES behind the others.
pub record SplitServed {S W : Type 0} (took : S → List ℕ → S → Type 0) (left : S → Option (List ℕ)) (history : W → List Exchange → W → Type 0) (used_up : W → Type 0) (broken : W → ℕ → Type 0)
    (env : Environment) (tree : Option Tree) (source source' : S) (world world' : W) (limit : ℕ) (status : Status) (finals : Option (List Running)) : Type 0 where
  pub bytes : List ℕ
  pub taken : took source bytes source'
  pub session : IsSplitSession history used_up broken world world' env (IsConfigured env tree) bytes (left source') limit status finals
  pub conf : (t : Tree) → tree ≡ Some t → FitsSplit status (conf_of env t)
  pub variable : (v : Named) → (status ≡ BadVariable v) ↔ (bad_split env ≡ Some v)

-- How it ends

-- The status behind the loop.
abbrev pub status_behind : ShardServed → Status
status_behind served.Ended = Done
status_behind served.Spent = Spent
status_behind served.Failed = WorldFault
status_behind (served.Bad k) = BadScript k
status_behind served.NoMemory = NoMemory

-- The cores that are left: none where memory was wanting.
abbrev pub left_behind : ShardServed → List Running → Option (List Running)
left_behind served.Ended cores = Some cores
left_behind served.Spent cores = Some cores
left_behind served.Failed cores = Some cores
left_behind (served.Bad k) cores = Some cores
left_behind served.NoMemory cores = None
