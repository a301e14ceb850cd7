use Rattle.std.proofs.Common.{◌≡◌, drop}
use Rattle.std.specs.Prelude.{find}
use Rattle.dc_machine.specs.Machine.{is_ready}
use Rattle.dc_clients.specs.View.{machine_of}
use Rattle.dc_clients.proofs.clients.Clients.first_ready.Given as goal

abbrev pub invariant-loop-i : goal.invariant-loop-i
invariant-loop-i g l = find (is_ready (machine_of g.S.Store.cache l.self)) l.self.connections ≡ find (is_ready (machine_of g.S.Store.cache l.self)) (drop l.i l.self.connections)
