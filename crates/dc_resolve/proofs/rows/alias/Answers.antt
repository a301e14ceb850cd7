use Rattle.std.proofs.Common.{rules, refl}
use Rattle.dc_model.specs.Puts.{all_put}
use Rattle.dc_desk.specs.View.{at}
use Rattle.dc_resolve.proofs.RowLemmas.{row_as, alias_full, alias_lowest, alias_above}
use Rattle.dc_resolve.proofs.rows.alias.Goals as goal

pub returns-then-not-is_lowest : goal.returns-then-not-is_lowest
unfolding all_put
returns-then-not-is_lowest g c m = row_as g.O.Effects.acted g.S.Store.cache _ m _ _ _ _ _ _ _ _ (alias_above _ _ (at g.S.Store.cache c.args.query.now c.args.desk.now) (search rules)) (g.met.O.Effects.acted_none _) c.rename.ensures refl refl refl refl refl

pub returns-then-aliases-ge-MOST_ALIASES : goal.returns-then-aliases-ge-MOST_ALIASES
unfolding all_put
returns-then-aliases-ge-MOST_ALIASES g c m = row_as g.O.Effects.acted g.S.Store.cache _ m _ _ _ _ _ _ _ _ (alias_full _ _ (at g.S.Store.cache c.args.query.now c.args.desk.now) (search rules) (search rules)) (g.met.O.Effects.acted_none _) refl refl refl refl refl refl

pub returns : goal.returns
unfolding all_put
returns g c m = row_as g.O.Effects.acted g.S.Store.cache _ m _ _ _ _ _ _ _ _ (alias_lowest _ _ (at g.S.Store.cache c.args.query.now c.args.desk.now) (search rules) (search rules)) (g.met.O.Effects.acted_none _) (search rules) refl refl refl refl refl
