use Rattle.dc_clients.specs.View.{machine_of}
use Rattle.dc_clients.proofs.ClockLemmas.{IsFirstSoFar}
use Rattle.dc_clients.proofs.clients.Clients.first_idle.Given as goal

abbrev pub invariant-loop-i : goal.invariant-loop-i
invariant-loop-i g l = IsFirstSoFar (machine_of g.S.Store.cache l.self) l.i l.first
