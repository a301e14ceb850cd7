use Rattle.std.proofs.Common.{arith}
use Rattle.dc_packet.proofs.MessageLemmas.{rows_length, row_is, owner_here, owner_reads}
use Rattle.dc_packet.proofs.message.Message.owner.Goals as goal

pub rr-rr-requires : goal.rr-rr-requires
rr-rr-requires c = omega (arith, c.requires, rows_length _ _ _ c.self.invariant.0 c.self.view_is)

pub unreachable-requires : goal.unreachable-requires
unreachable-requires c = owner_reads _ _ _ _ (row_is _ _ c.args.self.now c.args.i c.rr-rr.result c.self.invariant.0 c.self.view_is c.rr-rr.ensures) c.in-Err.ensures.read

pub returns-clause-owner : goal.returns-clause-owner
returns-clause-owner c = owner_here _ _ _ _ _ _ (row_is _ _ c.args.self.now c.args.i c.rr-rr.result c.self.invariant.0 c.self.view_is c.rr-rr.ensures) c.in-Ok.ensures.read
