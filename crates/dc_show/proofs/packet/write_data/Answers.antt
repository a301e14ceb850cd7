use Rattle.std.proofs.Common.{◌≡◌, sym, ap}
use Rattle.dc_packet.specs.Data.{body_of}
use Rattle.dc_packet.specs.declared.data.Data.{Data}
use Rattle.dc_lookup.specs.Text.{data_text}
use Rattle.dc_writer.proofs.Faring.{fared_both}
use Rattle.dc_writer.proofs.Writing.{wrote_both, wrote_as}
use Rattle.dc_show.proofs.packet.write_data.Goals as goal

pub returns-in-Host-clause-wrote : goal.returns-in-Host-clause-wrote
returns-in-Host-clause-wrote g c =
    let b = g.met.K.Sink.gained_both in
    let word = rw c.host_word.ensures at c.put.ensures.wrote in
    wrote_as _ _ b (ap (λ (d : Data). data_text c.args.kind c.args.class (body_of d)) (sym c.in-Host.is)) (wrote_both _ _ b word c.write_space_dot.ensures.wrote)

pub returns-in-Mx-clause-wrote : goal.returns-in-Mx-clause-wrote
returns-in-Mx-clause-wrote g c =
    let b = g.met.K.Sink.gained_both in
    let number = rw c.into.ensures at c.write_space_number.ensures.wrote in
    wrote_as _ _ b (ap (λ (d : Data). data_text c.args.kind c.args.class (body_of d)) (sym c.in-Mx.is))
    (wrote_both _ _ b c.put-in-Mx.ensures.wrote (wrote_both _ _ b number c.write_space_dot-in-Mx.ensures.wrote))

pub returns-in-Soa-clause-wrote : goal.returns-in-Soa-clause-wrote
returns-in-Soa-clause-wrote g c =
    wrote_as _ _ g.met.K.Sink.gained_both (ap (λ (d : Data). data_text c.args.kind c.args.class (body_of d)) (sym c.in-Soa.is)) (c.write_soa.ensures.wrote c.args.kind c.args.class)

pub returns-in-Host-clause-fared : goal.returns-in-Host-clause-fared
returns-in-Host-clause-fared g c =
    let b = g.met.K.Sink.gained_both in
    fared_both _ _ _ b _ _ c.put.ensures.wrote c.put.ensures.fared c.write_space_dot.ensures.fared

pub returns-in-Mx-clause-fared : goal.returns-in-Mx-clause-fared
returns-in-Mx-clause-fared g c =
    let b = g.met.K.Sink.gained_both in
    fared_both _ _ _ b _ _ c.put-in-Mx.ensures.wrote c.put-in-Mx.ensures.fared (fared_both _ _ _ b _ _ c.write_space_number.ensures.wrote c.write_space_number.ensures.fared c.write_space_dot-in-Mx.ensures.fared)
