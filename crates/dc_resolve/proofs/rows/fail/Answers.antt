use Rattle.std.proofs.Common.{rules, refl}
use Rattle.dc_model.specs.Puts.{all_put}
use Rattle.dc_machine.specs.Turn as machine
use Rattle.dc_resolve.proofs.RowLemmas.{row_as}
use Rattle.dc_resolve.proofs.rows.fail.Goals as goal

pub returns : goal.returns
unfolding all_put machine.failed_row
returns g c m = row_as g.O.Effects.acted g.S.Store.cache _ m _ _ _ _ _ _ _ _ refl (search rules) refl refl refl refl refl refl
