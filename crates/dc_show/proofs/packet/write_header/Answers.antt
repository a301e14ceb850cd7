use Rattle.dc_writer.proofs.Faring.{fared_both}
use Rattle.dc_writer.proofs.Writing.{wrote_both}
use Rattle.dc_lookup.specs.Text.{header_text}
use Rattle.dc_show.proofs.packet.write_header.Goals as goal

pub returns-clause-wrote : goal.returns-clause-wrote
unfolding header_text
returns-clause-wrote g c =
    let b = g.met.K.Sink.gained_both in
    let response = rw c.u16_at-flags.ensures at c.write_if.ensures.wrote in
    let authoritative = rw c.u16_at-flags.ensures at c.write_if-2.ensures.wrote in
    let truncated = rw c.u16_at-flags.ensures at c.write_if-3.ensures.wrote in
    let code = rw c.u16_at-flags.ensures at c.write_rcode.ensures.wrote in
    wrote_both _ _ b (wrote_both _ _ b (wrote_both _ _ b (wrote_both _ _ b (wrote_both _ _ b (wrote_both _ _ b (wrote_both _ _ b (wrote_both _ _ b (wrote_both _ _ b
    c.number.ensures.wrote c.put.ensures.wrote) c.write_counts.ensures.wrote) c.put-2.ensures.wrote) response) authoritative) truncated) c.put-3.ensures.wrote) code) c.put-4.ensures.wrote

pub returns-clause-fared : goal.returns-clause-fared
returns-clause-fared g c =
    let b = g.met.K.Sink.gained_both in
    fared_both _ _ _ b _ _ c.number.ensures.wrote c.number.ensures.fared (fared_both _ _ _ b _ _ c.put.ensures.wrote c.put.ensures.fared (fared_both _ _ _ b _ _ c.write_counts.ensures.wrote c.write_counts.ensures.fared (fared_both _ _ _ b _ _ c.put-2.ensures.wrote c.put-2.ensures.fared (fared_both _ _ _ b _ _ c.write_if.ensures.wrote c.write_if.ensures.fared (fared_both _ _ _ b _ _ c.write_if-2.ensures.wrote c.write_if-2.ensures.fared (fared_both _ _ _ b _ _ c.write_if-3.ensures.wrote c.write_if-3.ensures.fared (fared_both _ _ _ b _ _ c.put-3.ensures.wrote c.put-3.ensures.fared (fared_both _ _ _ b _ _ c.write_rcode.ensures.wrote c.write_rcode.ensures.fared c.put-4.ensures.fared))))))))
