-- One zone more has sixteen places too.
use Rattle.std.proofs.Common.{◌≡◌, ◌++◌, ℕ, length, List, [], ◌∷◌}
use Rattle.std.specs.List.{AllByRecursion}
use Rattle.dc_model.specs.Rules.{Zone}
use Rattle.dc_rules.specs.Table.{table_of}
use Rattle.dc_rules.specs.declared.zones.Zone.{Zone as Row}

pub one_more : (zs : List Row) (z : Row) → AllByRecursion (λ (y : Zone). length y.places ≡ 16) (table_of zs) → length z.servers ≡ 16 → AllByRecursion (λ (y : Zone). length y.places ≡ 16) (table_of (zs ++ (z ∷ [])))
one_more [] z h l = (l, tt)
one_more (y ∷ zs) z h l = (h.0, one_more zs z h.1 l)
