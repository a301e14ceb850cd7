-- The machine's runs, with a configuration and a seed.
use Rattle.std.specs.Prelude.{ℕ, min, max, List}
use Rattle.dc_model.specs.Cache.{Cache, empty}
use Rattle.dc_model.specs.Event.{Event, Action}
use Rattle.dc_machine.specs.Run.{Taken, seeded_run, actions_of}
use Rattle.dc_rules.specs.Settings.{rules_of}
use Rattle.dc_rules.specs.declared.config.Config.{Config}

-- The empty cache of a configuration: its size is brought into 100 to 1000000000 bytes.
abbrev pub cache_of : Config → Cache
cache_of c = empty (min (max c.size 100) 1000000000)

-- The machine's run of these events from a first cache, with a configuration and a seed.
abbrev pub run_from : Config → Cache → List ℕ → List Event → List Taken
run_from c first seed events = seeded_run (rules_of c) seed first events

-- The same, where the cache is empty at first.
abbrev pub run_with : Config → List ℕ → List Event → List Taken
run_with c seed events = run_from c (cache_of c) seed events

-- What the resolver's machine does at these events, with a configuration and a seed.
unfoldable pub machine_run : Config → List ℕ → List Event → List Action
machine_run c seed events = actions_of (run_with c seed events)
