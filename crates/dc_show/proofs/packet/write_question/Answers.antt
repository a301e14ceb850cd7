use Rattle.dc_writer.proofs.Faring.{fared_both}
use Rattle.dc_writer.proofs.Writing.{wrote_both}
use Rattle.dc_show.proofs.packet.write_question.Goals as goal

pub returns-clause-wrote : goal.returns-clause-wrote
returns-clause-wrote g c =
    let number = rw c.into.ensures at c.number.ensures.wrote in
    wrote_both _ _ g.met.K.Sink.gained_both number c.write_space_dot.ensures.wrote

pub returns-clause-fared : goal.returns-clause-fared
returns-clause-fared g c =
    let b = g.met.K.Sink.gained_both in
    fared_both _ _ _ b _ _ c.number.ensures.wrote c.number.ensures.fared c.write_space_dot.ensures.fared
