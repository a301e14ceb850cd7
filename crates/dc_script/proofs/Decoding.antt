-- Digits in lower case decode to the bytes that they spell.
use Rattle.std.proofs.Common.{◌≡◌, ℕ, ◌+◌, ◌*◌, ◌/◌, ◌%◌, ◌≤◌, ◌⊎◌, inl, inr, Bool, true, false, leb, ◌&&◌, ◌||◌, List, [], ◌∷◌, length, Some, Ok, refl, arith, eqb}
use Rattle.std.specs.List.{list_all}
use Rattle.std.proofs.lemmas.Bool.{eq-eqb}
use Rattle.std.proofs.lemmas.Bool.Decides.{nat_tests}
use borrow.Author.Tests.{leb-true}
use Rattle.std.proofs.Math.Nat.{mul_comm}
use Rattle.hex.specs.Hex.{hex_digit_value, decode_pairs, decode_sized}
use Rattle.dc_script.specs.Script.{is_lower_digit, lower_value, bytes_spelled}

both : (a b : Bool) → (a && b) ≡ true → (a ≡ true) × (b ≡ true)
both true b h = (refl, h)
both false b h = cc

in_range : (a b c : ℕ) → (leb a c && leb c b) ≡ true → (a ≤ c) × (c ≤ b)
in_range a b c h = let p = both (leb a c) (leb c b) h in (leb-true a c p.0, leb-true c b p.1)

or_true : (a b : Bool) → (a || b) ≡ true → (a ≡ true) ⊎ (b ≡ true)
or_true true b h = inl refl
or_true false b h = inr h

-- A digit from 0 to 9, or from a to f.
ranges : (c : ℕ) → is_lower_digit c ≡ true → ((48 ≤ c) × (c ≤ 57)) ⊎ ((97 ≤ c) × (c ≤ 102))
ranges c h = elim (or_true (leb 48 c && leb c 57) (leb 97 c && leb c 102) h) [ inl r ↦ inl (in_range 48 57 c r) | inr r ↦ inr (in_range 97 102 c r) ]

value_of_digit : (c : ℕ) → 48 ≤ c → c ≤ 57 → hex_digit_value c ≡ Some (lower_value c)
value_of_digit c h k = grind (arith, nat_tests)

value_of_letter : (c : ℕ) → 97 ≤ c → c ≤ 102 → hex_digit_value c ≡ Some (lower_value c)
value_of_letter c h k = grind (arith, nat_tests)

value_is : (c : ℕ) → is_lower_digit c ≡ true → hex_digit_value c ≡ Some (lower_value c)
value_is c h = elim (ranges c h) [ inl r ↦ value_of_digit c r.0 r.1 | inr r ↦ value_of_letter c r.0 r.1 ]

decoded : (i : ℕ) (text : List ℕ) → list_all is_lower_digit text ≡ true → length text % 2 ≡ 0 → decode_pairs i text ≡ Ok (bytes_spelled text)
unfolding decode_pairs
decoded i [] h e = refl
decoded i (c ∷ []) h e = absurd (omega arith)
decoded i (c ∷ d ∷ cs) h e =
    let first = both (is_lower_digit c) (list_all is_lower_digit (d ∷ cs)) h in
    let second = both (is_lower_digit d) (list_all is_lower_digit cs) first.1 in
    let high = value_is c first.0 in
    let low = value_is d second.0 in
    let rest = decoded (i + 2) cs second.1 (omega arith) in
    rw (high, low, rest, mul_comm (lower_value c) 16)

pub decode_lower : (text : List ℕ) (n : ℕ) → list_all is_lower_digit text ≡ true → length text ≡ 2 * n → decode_sized text n ≡ Ok (bytes_spelled text)
decode_lower text n h e =
    let even : length text % 2 ≡ 0 = omega arith in
    let odd : eqb (length text % 2) 1 ≡ false = grind (arith, nat_tests) in
    let half : length text / 2 ≡ n = omega arith in
    let same : eqb (length text / 2) n ≡ true = eq-eqb (length text / 2) n half in
    rw (odd, same) (decoded 0 text h even)
