use Rattle.std.proofs.Common.{◌≡◌, drop}
use Rattle.std.specs.Prelude.{find}
use Rattle.dc_connections.specs.Places.{has_number}
use Rattle.dc_connections.specs.Entries.{connections_of}
use Rattle.dc_connections.proofs.connections.find_number.Given as goal

abbrev pub invariant-loop-i : goal.invariant-loop-i
invariant-loop-i l = find (has_number l.number) (connections_of l.entries) ≡ find (has_number l.number) (drop l.i (connections_of l.entries))
