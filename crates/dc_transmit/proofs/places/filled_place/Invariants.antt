use Rattle.std.proofs.Common.{◌≡◌}
use Rattle.dc_transmit.specs.Rounds.{places_from}
use Rattle.dc_transmit.proofs.places.filled_place.Given as goal

abbrev pub invariant-loop-place : goal.invariant-loop-place
invariant-loop-place l = places_from l.start l.servers ≡ places_from l.place l.servers
