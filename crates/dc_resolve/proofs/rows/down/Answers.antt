use Rattle.std.proofs.Common.{refl}
use Rattle.dc_model.specs.Puts.{all_put}
use Rattle.dc_machine.specs.Turn as machine
use Rattle.dc_resolve.proofs.RowLemmas.{row_as}
use Rattle.dc_resolve.proofs.rows.down.Goals as goal

pub returns : goal.returns
unfolding all_put machine.down_row
returns g c m = row_as g.O.Effects.acted g.S.Store.cache _ m _ _ _ _ _ _ _ _ refl (g.met.O.Effects.acted_none _) c.lower.ensures refl refl refl refl refl
