use Rattle.dc_writer.proofs.Faring.{fared_both}
use Rattle.dc_writer.proofs.Writing.{wrote_both}
use Rattle.dc_show.proofs.piece.write_mx.Goals as goal

pub returns-clause-wrote : goal.returns-clause-wrote
returns-clause-wrote g c =
    let b = g.met.K.Sink.gained_both in
    let number = rw c.into.ensures at c.number.ensures.wrote in
    wrote_both _ _ b (wrote_both _ _ b number c.write_space_dot.ensures.wrote) c.put.ensures.wrote

pub returns-clause-fared : goal.returns-clause-fared
returns-clause-fared g c =
    let b = g.met.K.Sink.gained_both in
    fared_both _ _ _ b _ _ c.number.ensures.wrote c.number.ensures.fared (fared_both _ _ _ b _ _ c.write_space_dot.ensures.wrote c.write_space_dot.ensures.fared c.put.ensures.fared)
