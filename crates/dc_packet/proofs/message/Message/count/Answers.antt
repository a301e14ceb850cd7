use Rattle.std.proofs.Common.{◌∙◌}
use Rattle.dc_packet.proofs.MessageLemmas.{rows_length}
use Rattle.dc_packet.proofs.message.Message.count.Goals as goal

pub returns-clause-value : goal.returns-clause-value
returns-clause-value c = c.count.ensures.value ∙ rows_length _ _ _ c.self.invariant.0 c.self.view_is
