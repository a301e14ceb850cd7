-- A message that is being written, and the bytes in front of it.
use Rattle.std.specs.Prelude.{ℕ, List}
use Rattle.dc_model.specs.Reply.{Written}

-- Two bytes of a frame and twelve of a header, and the bytes behind them.
pub record Bytes : Type 0 where
  pub front : List ℕ
  pub bytes : List ℕ

-- The same, with the suffixes that can be pointed to.
pub record Page : Type 0 where
  pub front : List ℕ
  pub written : Written
