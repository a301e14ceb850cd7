use Rattle.std.proofs.Common.{◌≡◌, None, Some, ap, ◌∙◌}
use Rattle.dc_model.specs.Line.{line_cached}
use Rattle.dc_store.specs.Lent.{hit_value}
use Rattle.dc_frames.specs.View.{query_of}
use Rattle.dc_machine.specs.Query.{name_of}
use Rattle.dc_desk.specs.View.{setting_at, at}
use Rattle.dc_look.proofs.Taking.{took_as, took_goes}
use Rattle.dc_look.proofs.RowLemmas.{known-is, known-gives, known-above-none}
use Rattle.dc_look.proofs.kinds.give_known.Goals as goal

pub returns-in_default : goal.returns-in_default
returns-in_default g c = took_as (known-above-none (setting_at c.args.desk.now c.args.moment) (at g.S.Store.cache c.args.query.now c.args.desk.now) c.requires.above
    (known-is g.S.Store.cache c.args.query.now c.args.desk.now c.args.moment 1 c.second.result None c.second.ensures (c.in_default.ensures.hit (name_of (query_of c.args.query.now)) c.requires.key))) c.zone.ensures

pub returns : goal.returns
returns g c =
    let text : c.text.result.now ≡ line_cached 1 (name_of (query_of c.args.query.now)) = c.text.ensures.bytes ∙ (c.line_cached.ensures ∙ ap (line_cached 1) c.name.ensures) in
    took_goes (known-gives (setting_at c.args.desk.now c.args.moment) (at g.S.Store.cache c.args.query.now c.args.desk.now) (hit_value c.in-Some.hit) c.new-addresses.result (query_of c.add_addresses.new.query) c.requires.above
    (known-is g.S.Store.cache c.args.query.now c.args.desk.now c.args.moment 1 c.second.result (Some (hit_value c.in-Some.hit)) c.second.ensures (c.in-Some.ensures.hit (name_of (query_of c.args.query.now)) c.requires.key))
    (c.new-addresses.ensures.items (setting_at c.args.desk.now c.args.moment).zones.rule) c.add_addresses.ensures) (rw text at c.line.ensures)
