use Rattle.std.proofs.Common.{◌≡◌, Some, None, option_map, ap, sym, ◌∙◌}
use Rattle.dc_model.specs.Cache.{Hit}
use Rattle.dc_model.specs.Bodies.{items_of}
use Rattle.dc_store.specs.Lent.{hit_value}
use Rattle.dc_machine.specs.Turn.{cached_choice}
use Rattle.dc_desk.specs.View.{setting_at}
use Rattle.dc_look.specs.Chosen.{choice_at, choice_among}
use Rattle.dc_look.proofs.Choosing.{choice_here, choice-cached, cached-none, cached-empty, cached-some}
use Rattle.dc_look.proofs.servers.servers_of.Goals as goal

pub returns-in_err-hit-clause-choice : goal.returns-in_err-hit-clause-choice
returns-in_err-hit-clause-choice g c =
    let hit : cached_choice (setting_at c.args.desk.now c.args.moment) c.args.zone.now None ≡ choice_here g.S.Store.cache c.args.query.now c.args.desk.now c.args.moment c.args.zone.now =
    choice-cached g.S.Store.cache c.args.query.now c.args.desk.now c.args.moment c.args.zone.now c.second.result None c.in_default.ensures (sym c.if-not-uses_cached.ensures) c.second.ensures
    (c.in_err-hit.ensures.hit c.args.zone.now c.requires.key) in
    ap (option_map (choice_at c.args.zone.now)) c.from_residual.ensures ∙ (cached-none (setting_at c.args.desk.now c.args.moment) c.args.zone.now ∙ hit)

pub returns-then-is_empty-clause-choice : goal.returns-then-is_empty-clause-choice
returns-then-is_empty-clause-choice g c =
    let h : Hit = hit_value c.in_ok-hit.hit in
    let hit : cached_choice (setting_at c.args.desk.now c.args.moment) c.args.zone.now (Some h) ≡ choice_here g.S.Store.cache c.args.query.now c.args.desk.now c.args.moment c.args.zone.now =
    choice-cached g.S.Store.cache c.args.query.now c.args.desk.now c.args.moment c.args.zone.now c.second.result (Some h) c.in_default.ensures (sym c.if-not-uses_cached.ensures) c.second.ensures
    (c.in_ok-hit.ensures.hit c.args.zone.now c.requires.key) in
    cached-empty (setting_at c.args.desk.now c.args.moment) c.args.zone.now h (sym c.if-is_empty.ensures) ∙ hit

pub returns-clause-choice : goal.returns-clause-choice
returns-clause-choice g c =
    let h : Hit = hit_value c.in_ok-hit.hit in
    let hit : cached_choice (setting_at c.args.desk.now c.args.moment) c.args.zone.now (Some h) ≡ choice_here g.S.Store.cache c.args.query.now c.args.desk.now c.args.moment c.args.zone.now =
    choice-cached g.S.Store.cache c.args.query.now c.args.desk.now c.args.moment c.args.zone.now c.second.result (Some h) c.in_default.ensures (sym c.if-not-uses_cached.ensures) c.second.ensures
    (c.in_ok-hit.ensures.hit c.args.zone.now c.requires.key) in
    let is : c.new-hosts.result ≡ items_of c.args.desk.now.zones.rule 2 h.body = c.new-hosts.ensures ∙ ap (λ r. items_of r 2 h.body) c.rule.ensures in
    ap (λ xs. Some (choice_among c.args.zone.now xs)) is ∙ (cached-some c.args.desk.now c.args.moment c.args.zone.now h (sym c.if-is_empty.ensures) ∙ hit)
