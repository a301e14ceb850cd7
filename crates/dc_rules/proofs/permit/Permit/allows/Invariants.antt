use Rattle.std.proofs.Common.{◌≡◌, drop}
use Rattle.std.specs.List.{list_any}
use Rattle.dc_rules.proofs.Permissions.{begins}
use Rattle.dc_rules.proofs.permit.Permit.allows.Given as goal

abbrev pub invariant-loop-octets : goal.invariant-loop-octets
invariant-loop-octets l = list_any (λ p. begins l.addr p.items) l.octets-items ≡ list_any (λ p. begins l.addr p.items) (drop l.octets-index l.octets-items)
