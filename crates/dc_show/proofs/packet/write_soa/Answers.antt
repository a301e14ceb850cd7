use Rattle.dc_writer.proofs.Faring.{fared_both}
use Rattle.dc_writer.proofs.Writing.{wrote_both}
use Rattle.dc_show.proofs.packet.write_soa.Goals as goal

pub returns-clause-wrote : goal.returns-clause-wrote
returns-clause-wrote g c kind class =
    let b = g.met.K.Sink.gained_both in
    let n1 = rw (c.into.ensures, c.u32_at.ensures) at c.write_space_number.ensures.wrote in
    let n2 = rw (c.into-2.ensures, c.u32_at-2.ensures) at c.write_space_number-2.ensures.wrote in
    let n3 = rw (c.into-3.ensures, c.u32_at-3.ensures) at c.write_space_number-3.ensures.wrote in
    let n4 = rw (c.into-4.ensures, c.u32_at-4.ensures) at c.write_space_number-4.ensures.wrote in
    let n5 = rw (c.into-5.ensures, c.u32_at-5.ensures) at c.write_space_number-5.ensures.wrote in
    wrote_both _ _ b c.put.ensures.wrote (wrote_both _ _ b c.write_space_dot.ensures.wrote (wrote_both _ _ b c.write_space_dot-2.ensures.wrote
    (wrote_both _ _ b n1 (wrote_both _ _ b n2 (wrote_both _ _ b n3 (wrote_both _ _ b n4 n5))))))

pub returns-clause-fared : goal.returns-clause-fared
returns-clause-fared g c =
    let b = g.met.K.Sink.gained_both in
    fared_both _ _ _ b _ _ c.put.ensures.wrote c.put.ensures.fared (fared_both _ _ _ b _ _ c.write_space_dot.ensures.wrote c.write_space_dot.ensures.fared (fared_both _ _ _ b _ _ c.write_space_dot-2.ensures.wrote c.write_space_dot-2.ensures.fared (fared_both _ _ _ b _ _ c.write_space_number.ensures.wrote c.write_space_number.ensures.fared (fared_both _ _ _ b _ _ c.write_space_number-2.ensures.wrote c.write_space_number-2.ensures.fared (fared_both _ _ _ b _ _ c.write_space_number-3.ensures.wrote c.write_space_number-3.ensures.fared (fared_both _ _ _ b _ _ c.write_space_number-4.ensures.wrote c.write_space_number-4.ensures.fared c.write_space_number-5.ensures.fared))))))
