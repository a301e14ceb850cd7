-- A source or a sink over something else.
use Rattle.std.specs.Prelude.{ℕ}

-- What it stands on, and how often that failed.
pub record Over (T : Type 0) : Type 0 where
  pub inner : T
  pub faults : ℕ
