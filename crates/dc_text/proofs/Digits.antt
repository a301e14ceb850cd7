-- Numbers, digit by digit.
use Rattle.std.proofs.Common.{◌≡◌, ℕ, ◌+◌, ◌-◌, ◌*◌, ◌<◌, ◌≤◌, Bool, true, false, cond, eqb, ◌&&◌, ◌||◌, not, ltb, List, [], ◌∷◌, length, take, drop, slice_index, fold, Option, Some, None, refl, ap, sym, ◌∙◌, arith, subst}
use Rattle.std.specs.List.{list_all}
use Rattle.std.proofs.lemmas.List.{take_more, take-append-drop}
use Rattle.std.proofs.lemmas.List.Sums.{fold-append}
use Rattle.std.proofs.lemmas.List.Folds.{list_all_at}
use Rattle.std.proofs.lemmas.Bool.Decides.{nat_tests}
use Rattle.std.proofs.lemmas.Grind.{common_steps}
use Rattle.dc_model.specs.Name.{is_digit, is_number, number_value}
use Rattle.dc_text.specs.Numbers.{digits_below, number_below}

-- A digit behind others.
abbrev pub with_digit : ℕ → ℕ → ℕ
with_digit n c = 10 * n + (c - 48)

-- More digits make no smaller number.
grows : (n : ℕ) (cs : List ℕ) → n ≤ fold with_digit n cs
grows n [] = omega arith
grows n (c ∷ cs) = omega (arith, grows (with_digit n c) cs)

-- The number with one digit more.
pub number_more : (text : List ℕ) (i : ℕ) → i < length text → number_value (take (i + 1) text) ≡ with_digit (number_value (take i text)) (slice_index text i)
number_more text i h = ap number_value (take_more text i 0 h) ∙ fold-append with_digit 0 (take i text) (slice_index text i ∷ [])

-- Where a front is too great, the whole is.
pub number_over : (text : List ℕ) (i limit : ℕ) → i < length text → limit ≤ with_digit (number_value (take i text)) (slice_index text i) → limit ≤ number_value text
number_over text i limit h over =
    let whole : number_value text ≡ fold with_digit (number_value (take (i + 1) text)) (drop (i + 1) text) =
    ap number_value (sym (take-append-drop (i + 1) text)) ∙ fold-append with_digit 0 (take (i + 1) text) (drop (i + 1) text) in
    omega (arith, whole, number_more text i h, grows (number_value (take (i + 1) text)) (drop (i + 1) text))

-- Refusals

pub over_is_none : (limit : ℕ) (text : List ℕ) → limit ≤ number_value text → digits_below limit text ≡ None
over_is_none limit text h =
    let tested : ltb (number_value text) limit ≡ false = grind (arith, nat_tests) in
    rw tested (elim (list_all is_digit text) as (λ b. cond (b && false) (Some (number_value text)) None ≡ None) [ true ↦ refl | false ↦ refl ])

pub bad_digit : (limit : ℕ) (text : List ℕ) (i : ℕ) → i < length text → is_digit (slice_index text i) ≡ false → digits_below limit text ≡ None
bad_digit limit text i h bad = let none = list_all_at is_digit text i 0 h bad in rw none refl

pub digits_found : (limit : ℕ) (text : List ℕ) → list_all is_digit text ≡ true → number_value text < limit → digits_below limit text ≡ Some (number_value text)
digits_found limit text h below =
    let tested : ltb (number_value text) limit ≡ true = grind (arith, nat_tests) in
    rw (h, tested) refl

-- Texts with a first digit.

both_false : (a : Bool) (b : Bool) (v : Option ℕ) → cond ((a && false) && b) v None ≡ None
both_false true b v = refl
both_false false b v = refl

pub leading_zero : (limit : ℕ) (text : List ℕ) → slice_index text 0 ≡ 48 → 1 < length text → number_below limit text ≡ None
leading_zero limit [] h n = absurd (omega arith)
leading_zero limit (c ∷ []) h n = absurd (omega arith)
leading_zero limit (c ∷ d ∷ cs) h n =
    let P : ℕ → Type 0 = λ x. number_below limit (x ∷ d ∷ cs) ≡ None in
    let some : 0 < length (d ∷ cs) = omega arith in
    let more : eqb (length (d ∷ cs)) 0 ≡ false = grind (arith, nat_tests) in
    subst P (sym h) (rw more (both_false (list_all is_digit (48 ∷ d ∷ cs)) (ltb (number_value (48 ∷ d ∷ cs)) limit) (Some (number_value (48 ∷ d ∷ cs)))))

pub empty_number : (limit : ℕ) (text : List ℕ) → length text ≡ 0 → number_below limit text ≡ None
empty_number limit [] h = refl
empty_number limit (c ∷ cs) h = absurd (omega arith)

and_true : (b : Bool) → b ≡ (b && true)
and_true true = refl
and_true false = refl

other : (b d : Bool) → (b ≡ true → d ≡ true) → (not b || d) ≡ true
other true d h = h refl
other false d h = refl

-- Without a leading zero only the digits count.
pub first_is_other : (limit : ℕ) (text : List ℕ) → 0 < length text → (slice_index text 0 ≡ 48 → length text ≤ 1) → digits_below limit text ≡ number_below limit text
first_is_other limit [] h k = absurd (omega arith)
first_is_other limit (c ∷ cs) h k =
    let led : (not (eqb c 48) || eqb (length cs) 0) ≡ true = other (eqb c 48) (eqb (length cs) 0) (λ e. let least : c ≡ 48 → length cs ≤ 0 = (λ z. omega (arith, k z)) in grind (arith, nat_tests)) in
    let all : list_all is_digit (c ∷ cs) ≡ is_number (c ∷ cs) = rw led (and_true (list_all is_digit (c ∷ cs))) in
    ap (λ b. cond (b && ltb (number_value (c ∷ cs)) limit) (Some (number_value (c ∷ cs))) None) all

pub take_all : (text : List ℕ) (i : ℕ) → length text ≤ i → take i text ≡ text
take_all text i h = grind (arith, common_steps)
