-- The core between two events, as an engine.
use Rattle.std.specs.Prelude.{◌≡◌, ℕ, ◌+◌, ◌≤◌, false, [], ◌∷◌}
use Rattle.dc_model.specs.Limits.{most_works}
use Rattle.dc_model.specs.Event.{line}
use Rattle.dc_model.specs.Line.{line_starting}
use Rattle.dc_model.specs.Rules.{Rules}
use Rattle.dc_engine.specs.Automaton.{Automaton}
use Rattle.dc_machine.specs.Kept.{IsSound, IsRoomy}
use Rattle.dc_machine.specs.Machine.{Machine, step, wake}

-- The rules, the machine, and how many events were handled.
pub record Running : Type 0 where
  pub rules : Rules
  pub machine : Machine
  pub handled : ℕ

-- The resolver's machine as an engine runs it. It is never finished.
abbrev pub core_machine : Automaton Running
core_machine = record {
  opening = λ s. line line_starting ∷ [];
  wake = λ s. wake s.machine;
  finished = λ s. false;
  actions = λ s e words. (step s.rules s.machine e words).actions;
  next = λ s e words. record { rules = s.rules; machine = (step s.rules s.machine e words).machine; handled = s.handled + 1 };
  handled = λ s. s.handled;
}

-- A core is sound and within its limits, has all its works, and accepted a query and used a link at most at each event.
pub record IsKept (m : Machine) (count handled : ℕ) : Type 0 where
  pub sound : IsSound m
  pub roomy : IsRoomy m
  pub works : count ≡ most_works
  pub accepted : m.accepted ≤ handled
  pub links : m.links ≤ handled
