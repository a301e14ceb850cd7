-- What a contract sees of the random words.
use Rattle.std.specs.Prelude.{ℕ, List}

-- A seed, and for how many events its words were given.
pub record Drawn : Type 0 where
  pub seed : List ℕ
  pub given : ℕ
