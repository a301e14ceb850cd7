-- The runs of a core are those of the resolver's machine.
use Rattle.std.proofs.Common.{◌≡◌, ℕ, ◌+◌, List, [], ◌∷◌, ◌++◌, flat_map, refl, ap, ◌∙◌}
use Rattle.dc_model.specs.Draws.{draws_of}
use Rattle.dc_model.specs.Event.{Event, line}
use Rattle.dc_model.specs.Line.{line_starting}
use Rattle.dc_model.specs.Rules.{Rules}
use Rattle.dc_machine.specs.Machine.{Machine, step}
use Rattle.dc_machine.specs.Run as machine
use Rattle.dc_machine.specs.Run.{opening, taken_from, run, seeded_run}
use Rattle.dc_engine.specs.Automaton.{actions_of}
use Rattle.dc_rules.specs.Settings.{rules_of}
use Rattle.dc_rules.specs.declared.config.Config.{Config}
use Rattle.dc_play.specs.Playing.{run_of}
use Rattle.dc_core.specs.Running.{Running, core_machine}
use Rattle.dc_serving.specs.Runs.{cache_of, machine_run}

-- The actions behind the opening, from any machine and with the words from any number on.
pub actions_taken : (rules : Rules) (words : ℕ → List ℕ) (i : ℕ) (m : Machine) (handled : ℕ) (es : List Event)
    → actions_of core_machine words i (record { rules = rules; machine = m; handled = handled }) es ≡ flat_map (λ t. t.stepped.actions) (taken_from rules words i m es)
unfolding taken_from
actions_taken rules words i m handled [] = refl
actions_taken rules words i m handled (e ∷ es) =
    let s = step rules m e (words i) in
    ap (λ xs. s.actions ++ xs) (actions_taken rules words (i + 1) s.machine (handled + 1) es)

-- A core that begins with an empty cache does what the machine does.
pub run_is : (c : Config) (seed : List ℕ) (es : List Event)
    → run_of core_machine (draws_of seed) (record { rules = rules_of c; machine = opening (cache_of c); handled = 0 }) es ≡ machine_run c seed es
unfolding machine_run seeded_run run machine.actions_of
run_is c seed es = ap (λ xs. line line_starting ∷ xs) (actions_taken (rules_of c) (draws_of seed) 0 (opening (cache_of c)) 0 es)

-- The same of a core that is this one.
pub run_from : (core : Running) (c : Config) (seed : List ℕ) → core ≡ record { rules = rules_of c; machine = opening (cache_of c); handled = 0 }
    → (es : List Event) → run_of core_machine (draws_of seed) core es ≡ machine_run c seed es
run_from core c seed e es = ap (λ r. run_of core_machine (draws_of seed) r es) e ∙ run_is c seed es
