-- The active queries as contracts see them.
use Rattle.std.specs.Prelude.{ℕ, List}
use Rattle.dc_machine.specs.Machine.{Active}

-- The active queries in the order of their serial numbers, and how many further ones there are works for.
pub record Roll : Type 0 where
  pub queries : List Active
  pub spare : ℕ
