use Rattle.std.proofs.Common.{◌∷◌, [], refl, inr}
use Rattle.dc_system.specs.Call as call
use Rattle.dc_system.specs.declared.answers.Accepted.TheVariants as accepted
use Rattle.dc_sock.proofs.clients.Clients.turn_away.Goals as goal

pub returns-in-Connection-clause-accepts : goal.returns-in-Connection-clause-accepts
returns-in-Connection-clause-accepts g c = (
  call.accept 1 250 (accepted.Connection c.in-Connection.field-0) ∷ call.close 250 ∷ [],
  (
    g.met.S.System.called_then _ _ _ _ _ (rw (c.token_of-listener.ensures, c.in-Connection.is) at c.accept.ensures) c.close.ensures,
    ((accepted.Connection c.in-Connection.field-0, inr (c.requires.full, (refl, (refl, (refl, refl))))), rw c.token_of-listener.ensures at c.mark-in-Connection.ensures),
  ),
)
