use Rattle.std.proofs.Common.{refl, ap, ◌∙◌}
use Rattle.dc_look.specs.Chosen.{choice_at, choice_made}
use Rattle.dc_look.proofs.Choosing.{choice-first, choice-up, choice-none, key-up}
use Rattle.dc_look.proofs.servers.choose.Goals as goal

pub returns-in-Some : goal.returns-in-Some
returns-in-Some g c =
    ap (λ z. choice_at z c.in-Some.servers) c.to_name.ensures
    ∙ (choice-first g.S.Store.cache c.args.query.now c.args.desk.now c.args.moment c.loop-servers.zone _ c.in-Some.ensures.choice ∙ c.loop-servers.invariant.same)

pub returns-in_err-zone : goal.returns-in_err-zone
returns-in_err-zone g c =
    ap choice_made c.from_residual.ensures
    ∙ (choice-none g.S.Store.cache c.args.query.now c.args.desk.now c.args.moment c.loop-servers.zone c.in_default.ensures.choice (c.in_err-zone.ensures.root.0 refl) ∙ c.loop-servers.invariant.same)

pub loop-servers-preserved : goal.loop-servers-preserved
loop-servers-preserved g c = record {
  key = key-up c.servers_of.new.key c.up.new.self c.loop-servers.zone c.in_ok-zone.zone _ c.up.ensures (c.in_default.ensures.key ∙ c.loop-servers.invariant.key) c.in_ok-zone.ensures.first;
  same = choice-up g.S.Store.cache c.args.query.now c.args.desk.now c.args.moment c.loop-servers.zone c.in_ok-zone.zone _ c.in_default.ensures.choice c.in_ok-zone.ensures.first ∙ c.loop-servers.invariant.same;
}
