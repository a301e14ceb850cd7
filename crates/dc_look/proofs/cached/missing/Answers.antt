use Rattle.std.proofs.Common.{◌≡◌, None, Some, ap, ◌∙◌}
use Rattle.dc_model.specs.Line.{line_cached_nxdomain}
use Rattle.dc_store.specs.Lent.{hit_value}
use Rattle.dc_frames.specs.View.{query_of}
use Rattle.dc_machine.specs.Query.{name_of}
use Rattle.dc_desk.specs.View.{setting_at, at}
use Rattle.dc_look.proofs.Taking.{took_as, took_goes}
use Rattle.dc_look.proofs.RowLemmas.{known-is, missing-here, missing-not}
use Rattle.dc_look.proofs.cached.missing.Goals as goal

pub returns-in_default : goal.returns-in_default
returns-in_default g c = took_as (missing-not (setting_at c.args.desk.now c.args.moment) (at g.S.Store.cache c.args.query.now c.args.desk.now)
    (known-is g.S.Store.cache c.args.query.now c.args.desk.now c.args.moment 255 c.second.result None c.second.ensures (c.in_default.ensures.hit (name_of (query_of c.args.query.now)) c.requires.key))) c.renamed.ensures

pub returns : goal.returns
returns g c =
    let text : c.text.result.now ≡ line_cached_nxdomain (name_of (query_of c.args.query.now)) = c.text.ensures.bytes ∙ (c.line_cached_nxdomain.ensures ∙ ap line_cached_nxdomain c.name.ensures) in
    took_goes (missing-here (setting_at c.args.desk.now c.args.moment) (at g.S.Store.cache c.args.query.now c.args.desk.now) (hit_value c.in-Some.field-0)
    (known-is g.S.Store.cache c.args.query.now c.args.desk.now c.args.moment 255 c.second.result (Some (hit_value c.in-Some.field-0)) c.second.ensures (c.in-Some.ensures.hit (name_of (query_of c.args.query.now)) c.requires.key))) (rw text at c.line.ensures)
