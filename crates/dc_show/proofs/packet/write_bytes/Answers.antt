use Rattle.std.proofs.Common.{sym, ◌∙◌}
use Rattle.dc_writer.proofs.Faring.{fared_both}
use Rattle.dc_writer.proofs.Writing.{wrote_both, wrote_as}
use Rattle.dc_show.proofs.TextLemmas.{quad_is, opaque_is}
use Rattle.dc_show.proofs.packet.write_bytes.Goals as goal

pub returns-then-is_address-clause-wrote : goal.returns-then-is_address-clause-wrote
returns-then-is_address-clause-wrote g c =
    let b = g.met.K.Sink.gained_both in
    wrote_as _ _ b (quad_is c.args.kind c.args.class c.args.bytes.now (sym c.is_address.ensures.so ∙ c.if-is_address.true)) (wrote_both _ _ b c.put.ensures.wrote c.address.ensures.wrote)

pub returns-else-is_address-clause-wrote : goal.returns-else-is_address-clause-wrote
returns-else-is_address-clause-wrote g c =
    let b = g.met.K.Sink.gained_both in
    let number = rw c.into.ensures at c.number.ensures.wrote in
    wrote_as _ _ b (opaque_is c.args.kind c.args.class c.args.bytes.now (sym c.is_address.ensures.so ∙ c.if-is_address.false))
    (wrote_both _ _ b number (wrote_both _ _ b c.put-else-is_address.ensures.wrote c.write_opaque.ensures.wrote))

pub returns-then-is_address-clause-fared : goal.returns-then-is_address-clause-fared
returns-then-is_address-clause-fared g c =
    let b = g.met.K.Sink.gained_both in
    fared_both _ _ _ b _ _ c.put.ensures.wrote c.put.ensures.fared c.address.ensures.fared

pub returns-else-is_address-clause-fared : goal.returns-else-is_address-clause-fared
returns-else-is_address-clause-fared g c =
    let b = g.met.K.Sink.gained_both in
    fared_both _ _ _ b _ _ c.number.ensures.wrote c.number.ensures.fared (fared_both _ _ _ b _ _ c.put-else-is_address.ensures.wrote c.put-else-is_address.ensures.fared c.write_opaque.ensures.fared)
