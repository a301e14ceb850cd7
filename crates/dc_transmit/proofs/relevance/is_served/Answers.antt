use Rattle.std.proofs.Common.{refl, arith}
use Rattle.std.proofs.lemmas.Bool.Decides.{nat_tests}
use Rattle.dc_model.specs.Transmission.{is_served}
use Rattle.dc_transmit.proofs.relevance.is_served.Goals as goal

pub returns-then-rcode-eq0 : goal.returns-then-rcode-eq0
unfolding is_served
returns-then-rcode-eq0 c = rw (← c.u16_at-rcode.ensures, c.if-rcode-eq0.true) refl

pub returns-else-rcode-eq0 : goal.returns-else-rcode-eq0
unfolding is_served
returns-else-rcode-eq0 c = rw (← c.u16_at-rcode.ensures) (grind (arith, nat_tests))
