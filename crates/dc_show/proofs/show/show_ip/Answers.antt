use Rattle.std.proofs.Common.{◌≡◌, sym, ◌∙◌}
use Rattle.dc_model.proofs.MessageLemmas.{some_of}
use Rattle.dc_writer.proofs.Faring.{fared_both, whole_fares}
use Rattle.dc_writer.proofs.Writing.{wrote_both, wrote_as, whole}
use Rattle.dc_show.proofs.PartLemmas.{names_are, ip_is}
use Rattle.dc_show.proofs.show.show_ip.Goals as goal

pub write_each-requires : goal.write_each-requires
write_each-requires g c = names_are c.args.packet.now c.new-message.result c.new-message.ensures

pub returns-clause-whole : goal.returns-clause-whole
returns-clause-whole g c m e =
    let b = g.met.K.Sink.gained_both in
    let same = some_of c.new-message.result m (sym c.new-message.ensures ∙ e) in
    let text = wrote_as _ _ b (ip_is c.new-message.result m same) (wrote_both _ _ b c.write_each.ensures.wrote c.put.ensures.wrote) in
    (whole _ _ b c.new-writer.result c.finish.result c.new-writer.ensures text c.finish.ensures.flushed).0

pub returns-clause-fares : goal.returns-clause-fares
returns-clause-fares g c =
    let b = g.met.K.Sink.gained_both in
    whole_fares _ _ _ b c.new-writer.result c.finish.result _ _ c.new-writer.ensures (fared_both _ _ _ b _ _ c.write_each.ensures.wrote c.write_each.ensures.fared (fared_both _ _ _ b _ _ c.put.ensures.wrote c.put.ensures.fared c.finish.ensures.fared))
