use Rattle.std.proofs.Common.{Some, refl, ap, sym, ◌∙◌}
use Rattle.dc_model.specs.Cache.{get}
use Rattle.dc_model.specs.Puts.{key_of}
use Rattle.dc_frames.specs.View.{query_of, alias_of}
use Rattle.dc_machine.specs.Query.{name_of}
use Rattle.dc_machine.specs.Turn.{target_by}
use Rattle.dc_desk.specs.View.{setting_at, at}
use Rattle.dc_look.proofs.Taking.{took_as}
use Rattle.dc_look.proofs.RowLemmas.{known-is, cname-by, cname-none}
use Rattle.dc_look.proofs.cached.renamed.Goals as goal

pub returns-in-Some : goal.returns-in-Some
returns-in-Some g c = took_as (cname-by (setting_at c.args.desk.now c.args.moment) (at g.S.Store.cache c.args.query.now c.args.desk.now) (Some (alias_of c.in-Some.alias))
    (ap target_by (known-is g.S.Store.cache c.args.query.now c.args.desk.now c.args.moment 5 c.second.result (get (key_of 5 (name_of (query_of c.args.query.now))) c.second.result (g.S.Store.cache c.args.desk.now.store)) c.second.ensures refl)
    ∙ sym (c.in-Some.ensures.alias (name_of (query_of c.args.query.now)) c.requires.key))) (c.follow.ensures c.args.moment)

pub returns-in-None : goal.returns-in-None
returns-in-None g c = took_as (cname-none (setting_at c.args.desk.now c.args.moment) (at g.S.Store.cache c.args.query.now c.args.desk.now)
    (ap target_by (known-is g.S.Store.cache c.args.query.now c.args.desk.now c.args.moment 5 c.second.result (get (key_of 5 (name_of (query_of c.args.query.now))) c.second.result (g.S.Store.cache c.args.desk.now.store)) c.second.ensures refl)
    ∙ sym (c.in-None.ensures.alias (name_of (query_of c.args.query.now)) c.requires.key))) c.known.ensures
