use Rattle.std.proofs.Common.{◌≡◌, ◌≤◌, length, vec_capacity}
use Rattle.dc_connections.proofs.connections.streams.Given as goal

abbrev pub invariant-loop-n : goal.invariant-loop-n
invariant-loop-n l = record { count : length l.streams.items ≡ l._n; room : 20 ≤ vec_capacity l.streams }
