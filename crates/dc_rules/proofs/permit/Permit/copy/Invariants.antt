use Rattle.std.proofs.Common.{◌≡◌, ◌≤◌, take, map, vec_len, vec_capacity}
use Rattle.dc_rules.proofs.permit.Permit.copy.Given as goal

abbrev pub invariant-loop-octets : goal.invariant-loop-octets
invariant-loop-octets l = record {
  copied : map (λ p. p.items) l.places.items ≡ map (λ p. p.items) (take l.octets-index l.octets-items);
  many : vec_len l.places ≡ l.octets-index;
  room : 4096 ≤ vec_capacity l.places;
}
