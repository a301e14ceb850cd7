use Rattle.std.proofs.Common.{refl}
use Rattle.dc_model.specs.Transmission.{waits_of}
use Rattle.dc_transmit.proofs.round.Round.opening.Goals as goal

pub returns-then-recursive-clause-waits : goal.returns-then-recursive-clause-waits
unfolding waits_of
returns-then-recursive-clause-waits c = rw (c.if-recursive.true) refl

pub returns-else-recursive-clause-waits : goal.returns-else-recursive-clause-waits
unfolding waits_of
returns-else-recursive-clause-waits c = rw (c.if-recursive.false) refl
