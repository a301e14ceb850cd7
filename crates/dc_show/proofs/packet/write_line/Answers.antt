use Rattle.dc_writer.proofs.Faring.{fared_both}
use Rattle.dc_writer.proofs.Writing.{wrote_both}
use Rattle.dc_show.proofs.packet.write_line.Goals as goal

pub returns-clause-wrote : goal.returns-clause-wrote
returns-clause-wrote g c =
    let b = g.met.K.Sink.gained_both in
    let word = rw c.section_word.ensures at c.put.ensures.wrote in
    let ttl = rw c.into.ensures at c.write_space_number.ensures.wrote in
    wrote_both _ _ b (wrote_both _ _ b word (wrote_both _ _ b c.write_dot.ensures.wrote (wrote_both _ _ b ttl (wrote_both _ _ b c.put-2.ensures.wrote c.write_data.ensures.wrote)))) c.put-3.ensures.wrote

pub returns-clause-fared : goal.returns-clause-fared
returns-clause-fared g c =
    let b = g.met.K.Sink.gained_both in
    fared_both _ _ _ b _ _ c.put.ensures.wrote c.put.ensures.fared (fared_both _ _ _ b _ _ c.write_dot.ensures.wrote c.write_dot.ensures.fared (fared_both _ _ _ b _ _ c.write_space_number.ensures.wrote c.write_space_number.ensures.fared (fared_both _ _ _ b _ _ c.put-2.ensures.wrote c.put-2.ensures.fared (fared_both _ _ _ b _ _ c.write_data.ensures.wrote c.write_data.ensures.fared c.put-3.ensures.fared))))
