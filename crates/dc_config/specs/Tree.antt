-- What folders and files hold.
use Rattle.std.specs.Prelude.{ℕ, List, Option}

-- For each folder the names of its files, or nothing where there is no such folder; for each path the bytes of the file, or
-- nothing where there is no such file.
pub record Tree : Type 0 where
  pub names : List ℕ → Option (List (List ℕ))
  pub bytes : List ℕ → Option (List ℕ)
