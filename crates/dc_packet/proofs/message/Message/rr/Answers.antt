use Rattle.std.proofs.Common.{arith}
use Rattle.dc_packet.proofs.MessageLemmas.{rows_length, row_is, row_here}
use Rattle.dc_packet.proofs.message.Message.rr.Goals as goal

pub rr-requires : goal.rr-requires
rr-requires c = omega (arith, c.requires, rows_length _ _ _ c.self.invariant.0 c.self.view_is)

pub returns : goal.returns
returns c = row_here _ _ _ _ (row_is _ _ c.args.self.now c.args.i c.rr.result c.self.invariant.0 c.self.view_is c.rr.ensures)
