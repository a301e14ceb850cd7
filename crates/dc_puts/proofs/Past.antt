-- Behind the last record.
use Rattle.std.proofs.Common.{◌≡◌, ℕ, zero, suc, ◌≤◌, List, [], ◌∷◌, length, get_or, refl, arith}
use Rattle.std.specs.List.{refill}
use Rattle.std.proofs.lemmas.List.{take_all, drop_all, append-nil}

pub past : {X : Type 0} (xs : List X) (i : ℕ) (d : X) → length xs ≤ i → get_or xs i d ≡ d
past [] i d h = refl
past (x ∷ xs) zero d h = absurd (omega arith)
past (x ∷ xs) (suc i) d h = past xs i d (omega arith)

-- what was lent whole is what stands there
pub refilled : {X : Type 0} (n : ℕ) (xs ys : List X) → length ys ≡ length xs → n ≡ length xs → refill n xs ys ≡ ys
refilled n xs ys e f = grind (arith, refill, drop_all, take_all, append-nil)
