use Rattle.std.proofs.Common.{rules, refl}
use Rattle.dc_model.specs.Puts.{all_put}
use Rattle.dc_desk.specs.View.{at}
use Rattle.dc_resolve.proofs.RowLemmas.{row_as, reply_as, servfail_lowest, servfail_above}
use Rattle.dc_resolve.proofs.rows.servfail.Goals as goal

pub returns-then-not-is_lowest : goal.returns-then-not-is_lowest
unfolding all_put
returns-then-not-is_lowest g c m = row_as g.O.Effects.acted g.S.Store.cache _ m _ _ _ _ _ _ _ _ (servfail_above (at g.S.Store.cache c.args.query.now c.args.desk.now) (search rules)) (g.met.O.Effects.acted_none _) refl refl refl refl refl refl

pub returns : goal.returns
returns g c m = reply_as g.O.Effects.acted g.S.Store.cache _ m _ _ _ _ _ _ _ _ _ _ (servfail_lowest (at g.S.Store.cache c.args.query.now c.args.desk.now) (search rules)) (g.met.O.Effects.acted_none _) refl refl refl refl refl (c.replied.ensures _ _ _ _ c.reply_failure.ensures.fits c.reply_failure.ensures.draft)
