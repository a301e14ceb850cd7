use Rattle.std.proofs.Common.{rules, refl}
use Rattle.dc_model.specs.Puts.{all_put}
use Rattle.dc_desk.specs.View.{at}
use Rattle.dc_resolve.proofs.RowLemmas.{row_as, reply_as, nxdomain_lowest, nxdomain_above}
use Rattle.dc_resolve.proofs.rows.nxdomain.Goals as goal

pub returns-then-not-is_lowest : goal.returns-then-not-is_lowest
unfolding all_put
returns-then-not-is_lowest g c m = row_as g.O.Effects.acted g.S.Store.cache _ m _ _ _ _ _ _ _ _ (nxdomain_above (at g.S.Store.cache c.args.query.now c.args.desk.now) (search rules)) (g.met.O.Effects.acted_none _) refl refl refl refl refl refl

pub returns : goal.returns
returns g c m = reply_as g.O.Effects.acted g.S.Store.cache _ m _ _ _ _ _ _ _ _ _ _ (nxdomain_lowest (at g.S.Store.cache c.args.query.now c.args.desk.now) (search rules)) (g.met.O.Effects.acted_none _) refl refl refl refl refl (c.replied.ensures _ _ _ _ c.reply_missing.ensures.fits c.reply_missing.ensures.draft)
