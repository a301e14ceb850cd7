-- The permissions that the fields of `Permit` hold.
use Rattle.std.specs.Prelude.{◌≤◌, length, map, vec_len, vec_capacity}
use Rattle.std.specs.List.{AllByRecursion}
use Rattle.dc_model.specs.Rules.{Permits}
use Rattle.dc_rules.specs.declared.permit.Permit.TheInside.{Inside}

-- The octets of each place, in order.
abbrev pub permits_of : Inside → Permits
permits_of a = map (λ p. p.items) a.places.items

-- At most 4096 places are taken, and there is memory for so many. Each has one to four octets.
pub record HasPlaces (a : Inside) : Type 0 where
  pub most : vec_len a.places ≤ 4096
  pub room : 4096 ≤ vec_capacity a.places
  pub octets : AllByRecursion (λ o. (1 ≤ length o) × (length o ≤ 4)) (permits_of a)
