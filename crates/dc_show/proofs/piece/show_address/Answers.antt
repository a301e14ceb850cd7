use Rattle.dc_writer.proofs.Faring.{fared_both, whole_fares}
use Rattle.dc_writer.proofs.Writing.{wrote_both, whole}
use Rattle.dc_show.proofs.piece.show_address.Goals as goal

pub returns-clause-whole : goal.returns-clause-whole
returns-clause-whole g c =
    let b = g.met.K.Sink.gained_both in
    (whole _ _ b c.new-writer.result c.finish.result c.new-writer.ensures (wrote_both _ _ b c.address.ensures.wrote c.put.ensures.wrote) c.finish.ensures.flushed).0

pub returns-clause-fares : goal.returns-clause-fares
returns-clause-fares g c =
    let b = g.met.K.Sink.gained_both in
    whole_fares _ _ _ b c.new-writer.result c.finish.result _ _ c.new-writer.ensures (fared_both _ _ _ b _ _ c.address.ensures.wrote c.address.ensures.fared (fared_both _ _ _ b _ _ c.put.ensures.wrote c.put.ensures.fared c.finish.ensures.fared))
