use Rattle.dc_packet.specs.Data.{body_of}
use Rattle.dc_writer.proofs.Writing.{wrote_as}
use Rattle.dc_show.proofs.PartLemmas.{line_is}
use Rattle.dc_show.proofs.packet.LinesPart.write.Goals as goal

pub returns-clause-wrote : goal.returns-clause-wrote
returns-clause-wrote g c r e =
    wrote_as _ _ g.met.K.Sink.gained_both (line_is c.args.message.now.records c.args.at c.rr.result c.owner.result (body_of c.data.result) r c.rr.ensures c.owner.ensures.owner c.data.ensures e) c.write_line.ensures.wrote
