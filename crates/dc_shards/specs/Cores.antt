-- Cores that go by the same rules.
use Rattle.std.specs.Prelude.{◌≡◌, List, [], ◌∷◌, map}
use Rattle.dc_model.specs.Rules.{Rules}
use Rattle.dc_machine.specs.Machine.{Machine}
use Rattle.dc_core.specs.Running.{Running}

-- All cores go by these rules.
abbrev pub HaveRules : Rules → List Running → Type 0
HaveRules rules [] = Unit {0}
HaveRules rules (r ∷ rs) = (r.rules ≡ rules) × HaveRules rules rs

-- The machines that they stand for.
abbrev pub machines : List Running → List Machine
machines rs = map (λ r. r.machine) rs
