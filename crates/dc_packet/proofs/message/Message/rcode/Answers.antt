use Rattle.std.proofs.Common.{◌∙◌, ap}
use Rattle.dc_packet.specs.Rows.{Rows}
use Rattle.dc_packet.proofs.MessageLemmas.{rows_are}
use Rattle.dc_packet.proofs.message.Message.rcode.Goals as goal

pub returns : goal.returns
returns c = c.rcode.ensures ∙ ap (λ (t : Rows). t.rcode) (rows_are _ _ _ c.self.invariant.0 c.self.view_is).1
