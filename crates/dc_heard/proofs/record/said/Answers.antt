use Rattle.dc_marks.proofs.MarkLemmas.{message_in-is}
use Rattle.dc_heard.proofs.record.said.Goals as goal

pub returns : goal.returns
returns c = message_in-is c.args.packet.now c.new.result c.new.ensures
