-- Zones with the root's first.
use Rattle.std.specs.Prelude.{◌≡◌, ◌<◌, ℕ, if◌then◌else◌, List, [], ◌∷◌, ◌++◌, length, get_or, remove}
use Rattle.dc_model.specs.Name.{root}
use Rattle.dc_model.specs.Rules.{Zone, Zones, is_named}

-- Zones, behind those that were passed over: the first that is the root stands before all others, which keep their order.
abbrev pub led : (before : List Zone) → List Zone → List Zone
led before [] = before
led before (z ∷ zs) = if is_named root z then z ∷ (before ++ zs) else led (before ++ (z ∷ [])) zs

-- The zones with the root's first. Where the root has none they are as they were.
abbrev pub root_first : Zones → Zones
root_first zs = record { configured = led [] zs.configured; rule = zs.rule }

-- The zone of this number is the one that is put first.
abbrev pub LedBy : ℕ → List Zone → Type 0
LedBy at zs = (at < length zs) × ((d : Zone) → led [] zs ≡ get_or zs at d ∷ remove zs at)
