-- The body of an entry, while it is gathered.
use Rattle.std.specs.Prelude.{◌≡◌, ℕ, true, nat_le, List, length}
use Rattle.dc_puts.specs.declared.gathered.Gathered.{Gathered}

-- These bytes were gathered: they stand there, where they are 8192 at most.
pub record Holds (b : Gathered) (xs : List ℕ) : Type 0 where
  pub short : b.fits ≡ nat_le (length xs) 8192
  pub bytes : b.fits ≡ true → b.bytes.items ≡ xs
