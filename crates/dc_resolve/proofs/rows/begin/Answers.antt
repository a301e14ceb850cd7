use Rattle.std.proofs.Common.{rules, refl}
use Rattle.dc_model.specs.Puts.{all_put}
use Rattle.dc_desk.specs.View.{at}
use Rattle.dc_resolve.proofs.RowLemmas.{row_as, begin_axfr, begin_other}
use Rattle.dc_resolve.proofs.rows.begin.Goals as goal

pub returns-then-request-eq-AXFR : goal.returns-then-request-eq-AXFR
unfolding all_put
returns-then-request-eq-AXFR g c m = row_as g.O.Effects.acted g.S.Store.cache _ m _ _ _ _ _ _ _ _ (begin_axfr (at g.S.Store.cache c.args.query.now c.args.desk.now) (search rules)) (g.met.O.Effects.acted_none _) refl refl refl refl refl refl

pub returns : goal.returns
unfolding all_put
returns g c m = row_as g.O.Effects.acted g.S.Store.cache _ m _ _ _ _ _ _ _ _ (begin_other (at g.S.Store.cache c.args.query.now c.args.desk.now) (search rules)) (g.met.O.Effects.acted_none _) c.begin.ensures refl refl refl refl refl
