-- The search for a line: what was taken so far, and how far was searched.
use Rattle.std.proofs.Common.{◌≡◌, ℕ, ◌<◌, ◌≤◌, List, ◌++◌, length, take}
use Rattle.dc_script.specs.Lines.{Held, IsOneLine}

pub record SoFar {S : Type 0} (took : S → List ℕ → S → Type 0) (old : Held) (source : S) (now : Held) (after : S) (searched : ℕ) (more : List ℕ) : Type 0 where
  pub taken : took source more after
  pub rest : now.rest ≡ old.rest ++ more
  pub late : 0 < length more → IsOneLine old.rest
  pub within : searched ≤ length now.rest
  pub none : IsOneLine (take searched now.rest)
