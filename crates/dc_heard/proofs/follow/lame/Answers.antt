use Rattle.std.proofs.Common.{◌≡◌, ap, ◌∙◌, refl}
use Rattle.dc_model.specs.Message.{Message}
use Rattle.dc_model.specs.Puts.{all_put}
use Rattle.dc_packet.specs.Rows.{message_in}
use Rattle.dc_marks.specs.Places.{record_in}
use Rattle.dc_machine.specs.Turn.{class_row}
use Rattle.dc_heard.proofs.follow.lame.Goals as goal

pub returns : goal.returns
unfolding class_row all_put
returns g c = λ k m.
    let zone : c.owner-zone.result ≡ (record_in (message_in c.args.answer.packet.now) c.args.i).owner = c.owner-zone.ensures ∙ ap (λ (x : Message). (record_in x c.args.i).owner) c.said.ensures in
    record {
      acts = rw zone at c.leave_out.ensures.acts;
      query = c.leave_out.ensures.query;
      store = refl;
      links = refl;
      setting = refl;
      counts = refl;
      next = refl;
    }
