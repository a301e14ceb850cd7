-- Runs keep their promises.
use Rattle.std.proofs.Common.{◌≡◌, ℕ, List, sym, subst}
use Rattle.std.specs.Prelude.{All}
use Rattle.dc_model.specs.Cache.{Cache, empty}
use Rattle.dc_model.specs.Event.{Event, IsEvent}
use Rattle.dc_rules.specs.Settings.{rules_of}
use Rattle.dc_rules.specs.declared.config.Config.{Config}
use Rattle.dc_trust.specs.Faith.{HaveSixteen}
use Rattle.dc_trust.specs.Promises.{KeepsPromises}
use Rattle.dc_trust.proofs.Running.{seeded_promises}
use Rattle.dc_serving.specs.Runs.{run_from, run_with}

-- A run that begins with an empty cache keeps its promises,
pub begun_trusted : (c : Config) (first : Cache) (seed : List ℕ) (events : List Event) → HaveSixteen c.zones → All IsEvent events
    → (size : ℕ) → first ≡ empty size → KeepsPromises (rules_of c).zones (run_from c first seed events)
begun_trusted c first seed events z h size e =
    subst (λ f. KeepsPromises (rules_of c).zones (run_from c f seed events)) (sym e) (seeded_promises (rules_of c) seed size events z h)

-- and so does one that is served with the configured size.
pub run_trusted : (c : Config) (seed : List ℕ) (events : List Event) → HaveSixteen c.zones → All IsEvent events → KeepsPromises (rules_of c).zones (run_with c seed events)
run_trusted c seed events z h = seeded_promises (rules_of c) seed _ events z h
