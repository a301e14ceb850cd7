use Rattle.std.proofs.Common.{◌≡◌, ap, ◌∙◌, refl, option_map}
use Rattle.dc_model.specs.Message.{Message}
use Rattle.dc_model.specs.Marks.{negative_ttl}
use Rattle.dc_model.specs.Puts.{all_put}
use Rattle.dc_packet.specs.Rows.{message_in}
use Rattle.dc_marks.specs.Places.{record_in}
use Rattle.dc_desk.specs.View.{setting_of}
use Rattle.dc_machine.specs.Turn.{class_row}
use Rattle.dc_heard.proofs.follow.missing.Goals as goal

pub returns : goal.returns
unfolding class_row all_put setting_of
returns g c =
    let ttl : c.negative_ttl-ttl.result ≡ negative_ttl c.args.desk.now.zones.rule (option_map (record_in (message_in c.args.answer.packet.now)) c.args.found.now.soa)
    = c.negative_ttl-ttl.ensures ∙ ap (λ r. negative_ttl r (option_map (record_in c.said-message.result) c.args.found.now.soa)) c.rule.ensures
    ∙ ap (λ (m : Message). negative_ttl c.args.desk.now.zones.rule (option_map (record_in m) c.args.found.now.soa)) c.said-message.ensures in
    record {
      acts = rw ttl at c.no_name.ensures.acts;
      query = refl;
      store = rw (ttl, c.second-second.ensures) at c.no_name.ensures.store;
      links = refl;
      setting = refl;
      counts = refl;
      next = refl;
    }
