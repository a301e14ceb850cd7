use Rattle.dc_writer.proofs.Faring.{fared_both}
use Rattle.dc_writer.proofs.Writing.{wrote_both, wrote_as}
use Rattle.dc_show.proofs.TextLemmas.{datum_four}
use Rattle.dc_show.proofs.parts.write_if_address.Goals as goal

pub returns-then-bytes-eq4-clause-wrote : goal.returns-then-bytes-eq4-clause-wrote
returns-then-bytes-eq4-clause-wrote g c =
    let b = g.met.K.Sink.gained_both in
    wrote_as _ _ b (datum_four c.args.bytes.now c.if-bytes-eq4.true) (wrote_both _ _ b c.address.ensures.wrote c.put.ensures.wrote)

pub returns-then-bytes-eq4-clause-fared : goal.returns-then-bytes-eq4-clause-fared
returns-then-bytes-eq4-clause-fared g c =
    let b = g.met.K.Sink.gained_both in
    fared_both _ _ _ b _ _ c.address.ensures.wrote c.address.ensures.fared c.put.ensures.fared
