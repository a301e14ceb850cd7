use Rattle.dc_packet.proofs.MessageLemmas.{rows_said}
use Rattle.dc_packet.proofs.message.Message.new.Goals as goal

pub returns : goal.returns
returns c = rows_said c.args.packet.now c.args.table.now c.requires.table
