use Rattle.std.proofs.Common.{ap, ◌∙◌}
use Rattle.dc_model.specs.Address.{address_text}
use Rattle.dc_writer.proofs.Texts.{four_bytes}
use Rattle.dc_writer.proofs.Writing.{wrote_as}
use Rattle.dc_writer.proofs.writer.Writer.address.Goals as goal

pub returns-clause-wrote : goal.returns-clause-wrote
returns-clause-wrote g c =
    let items = rw c.new-text.ensures at c.push_address.ensures.items in
    wrote_as _ _ g.met.K.Sink.gained_both (c.as_slice.ensures.value ∙ items ∙ ap address_text (four_bytes c.args.addr.now c.requires)) c.put.ensures.wrote
