use Rattle.std.proofs.Common.{◌<◌, drop, map}
use Rattle.std.specs.List.{AllByRecursion}
use Rattle.dc_record.proofs.typed.are_octets.Given as goal

abbrev pub invariant-loop-place : goal.invariant-loop-place
invariant-loop-place l = AllByRecursion (AllByRecursion (λ b. b < 256)) (map (λ p. p.items) (drop l.place-index l.place-items)) → AllByRecursion (AllByRecursion (λ b. b < 256)) l.permit
