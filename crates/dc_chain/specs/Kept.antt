-- What holds of the fields of the chains.
use Rattle.std.specs.Prelude.{◌≡◌, ◌≤◌, List, length}
use Rattle.dc_model.specs.Cache.{hsize}
use Rattle.dc_model.specs.Layout.{Place, Holds}
use Rattle.dc_chain.specs.declared.Chains.TheInside.{Inside}

-- The block holds some entries.
pub record IsKept (a : Inside) : Type 0 where
  pub least : 100 ≤ length a.arena
  pub most : length a.arena ≤ 1000000000
  pub heads : a.heads ≡ hsize (length a.arena)
  pub ps : List Place
  pub holds : Holds a.arena (length a.arena) ps
