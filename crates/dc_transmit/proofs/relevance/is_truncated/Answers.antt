use Rattle.std.proofs.Common.{refl}
use Rattle.dc_model.specs.Transmission.{is_truncated}
use Rattle.dc_transmit.proofs.relevance.is_truncated.Goals as goal

pub returns : goal.returns
unfolding is_truncated
returns c = rw (← c.u16_at.ensures) refl
