-- Tests that hold or not.
use Rattle.std.proofs.Common.{◌≡◌, ℕ, ◌≤◌, ◌<◌, ◌≢◌, Bool, true, false, not, ◌&&◌, nat_le, nat_eq, refl, arith}
use Rattle.std.proofs.lemmas.Bool.Decides.{nat_tests}

pub leb_below : (a b : ℕ) → b < a → nat_le a b ≡ false
leb_below a b h = grind (arith, nat_tests)

pub leb_above : (a b : ℕ) → a ≤ b → nat_le a b ≡ true
leb_above a b h = grind (arith, nat_tests)

pub and_left_no : (a b : Bool) → a ≡ false → (a && b) ≡ false
and_left_no true b h = cc
and_left_no false b h = refl

pub and_right_no : (a b : Bool) → b ≡ false → (a && b) ≡ false
and_right_no true b h = h
and_right_no false b h = refl

pub and_yes : (a b : Bool) → a ≡ true → b ≡ true → (a && b) ≡ true
and_yes true b h k = k
and_yes false b h k = h

pub not_no : (a : Bool) → a ≡ true → not a ≡ false
not_no true h = refl
not_no false h = cc

pub not_yes : (a : Bool) → a ≡ false → not a ≡ true
not_yes true h = cc
not_yes false h = refl

pub eq_no : (m n : ℕ) → m ≢ n → nat_eq m n ≡ false
eq_no m n h = grind (arith, nat_tests)

pub eq_yes : (m n : ℕ) → m ≡ n → nat_eq m n ≡ true
eq_yes m n h = grind (arith, nat_tests)
