use Rattle.dc_writer.proofs.Faring.{fared_both}
use Rattle.dc_writer.proofs.Writing.{wrote_both, wrote_as}
use Rattle.dc_show.proofs.TextLemmas.{rcode_other}
use Rattle.dc_show.proofs.packet.write_rcode.Goals as goal

pub returns-else-code-eq3-clause-wrote : goal.returns-else-code-eq3-clause-wrote
returns-else-code-eq3-clause-wrote g c =
    let b = g.met.K.Sink.gained_both in
    let number = rw c.into.ensures at c.number.ensures.wrote in
    wrote_as _ _ b (rcode_other c.args.code c.if-code-eq0.false c.if-code-eq3.false) (wrote_both _ _ b c.put-else-code-eq3.ensures.wrote number)

pub returns-else-code-eq3-clause-fared : goal.returns-else-code-eq3-clause-fared
returns-else-code-eq3-clause-fared g c =
    let b = g.met.K.Sink.gained_both in
    fared_both _ _ _ b _ _ c.put-else-code-eq3.ensures.wrote c.put-else-code-eq3.ensures.fared c.number.ensures.fared
