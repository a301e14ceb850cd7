use Rattle.std.proofs.Common.{◌≡◌, true, false, ap, sym, refl, ◌∙◌}
use Rattle.dc_model.specs.Line.{line_cached, line_cached_cname}
use Rattle.dc_model.specs.Marks.{is_wanted}
use Rattle.dc_frames.specs.View.{query_of, alias_of}
use Rattle.dc_machine.specs.Query.{name_of, wanted_of}
use Rattle.dc_desk.specs.View.{setting_at, at}
use Rattle.dc_look.proofs.Taking.{took_goes, took_reply}
use Rattle.dc_look.proofs.RowLemmas.{cname-wanted, cname-leads}
use Rattle.dc_look.proofs.cached.follow.Goals as goal

pub returns-then-is_wanted : goal.returns-then-is_wanted
returns-then-is_wanted g c m =
    let wanted : is_wanted (wanted_of (query_of c.args.query.now)) 5 ≡ true = ap (λ w. is_wanted w 5) (sym c.wanted.ensures) ∙ sym c.if-is_wanted.ensures in
    let text : c.text.result.now ≡ line_cached 5 (name_of (query_of c.args.query.now)) = c.text.ensures.bytes ∙ (c.line_cached.ensures ∙ ap (line_cached 5) c.name.ensures) in
    took_reply _ _ (cname-wanted (setting_at c.args.desk.now m) (at g.S.Store.cache c.args.query.now c.args.desk.now) (alias_of c.args.alias) wanted)
    (rw text at c.line.ensures) c.reply_one.ensures c.replied.ensures refl

pub returns : goal.returns
returns g c m =
    let wanted : is_wanted (wanted_of (query_of c.args.query.now)) 5 ≡ false = ap (λ w. is_wanted w 5) (sym c.wanted.ensures) ∙ sym c.if-is_wanted.ensures in
    let text : c.text-2.result.now ≡ line_cached_cname (name_of (query_of c.args.query.now)) c.args.alias.name =
    c.text-2.ensures.bytes ∙ (c.line_cached_cname.ensures ∙ ap (λ n. line_cached_cname n c.args.alias.name) c.name-2.ensures) in
    took_goes (cname-leads (setting_at c.args.desk.now m) (at g.S.Store.cache c.args.query.now c.args.desk.now) (alias_of c.args.alias) wanted) (rw text at c.line-2.ensures)
