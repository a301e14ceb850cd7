use Rattle.dc_writer.proofs.Faring.{fared_both}
use Rattle.dc_writer.proofs.Writing.{wrote_both}
use Rattle.dc_show.proofs.packet.write_counts.Goals as goal

pub returns-clause-wrote : goal.returns-clause-wrote
returns-clause-wrote g c =
    let b = g.met.K.Sink.gained_both in
    let first = rw (c.into.ensures, c.u16_at.ensures) at c.number.ensures.wrote in
    let second = rw (c.into-2.ensures, c.u16_at-2.ensures) at c.number-2.ensures.wrote in
    let third = rw (c.into-3.ensures, c.u16_at-3.ensures) at c.number-3.ensures.wrote in
    wrote_both _ _ b first (wrote_both _ _ b c.put.ensures.wrote (wrote_both _ _ b second (wrote_both _ _ b c.put-2.ensures.wrote third)))

pub returns-clause-fared : goal.returns-clause-fared
returns-clause-fared g c =
    let b = g.met.K.Sink.gained_both in
    fared_both _ _ _ b _ _ c.number.ensures.wrote c.number.ensures.fared (fared_both _ _ _ b _ _ c.put.ensures.wrote c.put.ensures.fared (fared_both _ _ _ b _ _ c.number-2.ensures.wrote c.number-2.ensures.fared (fared_both _ _ _ b _ _ c.put-2.ensures.wrote c.put-2.ensures.fared c.number-3.ensures.fared)))
