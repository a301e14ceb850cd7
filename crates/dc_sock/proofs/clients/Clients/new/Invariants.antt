use Rattle.std.proofs.Common.{◌≡◌, replicate}
use Rattle.dc_sock.specs.SeatCalls.{free_seat}
use Rattle.dc_sock.proofs.clients.Clients.new.Given as goal

abbrev pub invariant-loop : goal.invariant-loop
invariant-loop l = l.seats.items ≡ replicate l.counter free_seat
