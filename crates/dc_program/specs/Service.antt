-- What an operator sees of a service over sockets.
use Rattle.std.specs.Prelude.{◌≡◌, ℕ, true, List, ◌∷◌, ◌++◌, All}
use Rattle.std.specs.declared.option.Option.{Option}
use Rattle.std.specs.declared.option.Option.TheVariants.{Some}
use Rattle.dc_model.specs.Cache.{Cache}
use Rattle.dc_model.specs.Draws.{draws_of}
use Rattle.dc_model.specs.Event.{Event, IsEvent}
use Rattle.dc_event.specs.History.{Exchange, listened, events_in, actions_in}
use Rattle.dc_rules.specs.Settings.{rules_of}
use Rattle.dc_rules.specs.declared.config.Config.{Config}
use Rattle.dc_config.specs.Environment.{Environment}
use Rattle.dc_config.specs.Modes.{cores_in}
use Rattle.dc_system.specs.Call.{Call}
use Rattle.dc_sock.specs.World.{Shown}
use Rattle.dc_sock.specs.Service.{RunsService}
use Rattle.dc_serving.specs.Serving.{passes_from, session_passes}
use Rattle.dc_shards.specs.Serving.{last_asks}
use Rattle.dc_split.specs.Resolver.{cores_of, split_actions}
use Rattle.dc_status.specs.declared.status.Status.{Status}

-- For the configuration and the seed there are events such that the calls that were made of the system are, to an operator, exactly the
-- machine's run over these events.
abbrev pub IsService : {S : Type 0} (called : S → List Call → S → Type 0) (configured : Config → Type 0) (seed : List ℕ) → Status → (old new : Shown S) → Type 0
IsService called configured seed status old new =
    (c : Config) × (configured c × ((events : List Event) × (All IsEvent events × RunsService called old (session_passes c seed events status) new)))

-- The same, where the run begins with this cache.
abbrev pub IsServiceFrom : {S : Type 0} (called : S → List Call → S → Type 0) → Config → (first : Cache) (seed : List ℕ) → Status → (old new : Shown S) → Type 0
IsServiceFrom called c first seed status old new =
    (events : List Event) × (All IsEvent events × RunsService called old (passes_from c first seed events status) new)

-- Over so many cores: something passed, of which the events are within their bounds, and the actions are those of the machine over several cores
-- at these events, and the calls that were made of the system are, to an operator, exactly that.
abbrev pub IsSplitService : {S : Type 0} (called : S → List Call → S → Type 0) → Config → (cores : ℕ) (seed : List ℕ) → Status → (old new : Shown S) → Type 0
IsSplitService called c cores seed status old new =
    (passed : List Exchange) × ((wake : Option ℕ) × (All IsEvent (events_in passed)
    × ((actions_in passed ≡ split_actions (rules_of c) (draws_of seed) (cores_of cores c.size) (events_in passed))
    × RunsService called old (listened c.ip c.ipsend true ∷ (passed ++ last_asks status wake)) new)))
