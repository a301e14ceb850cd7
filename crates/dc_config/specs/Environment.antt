-- Environment variables.
use Rattle.std.specs.Prelude.{ℕ, Bool, List, bytes_eq, Option, option_map, find}

-- A variable that was set.
pub record Setting : Type 0 where
  pub name : List ℕ
  pub value : List ℕ

-- What was set, the last one first.
abbrev pub Environment : Type 0
Environment = List Setting

-- Whether this variable was set.
abbrev pub is_called : List ℕ → Setting → Bool
is_called name s = bytes_eq s.name name

-- The value that was set last for a name.
abbrev pub value_of : List ℕ → Environment → Option (List ℕ)
value_of name env = option_map (λ s. s.value) (find (is_called name) env)
