-- Numbers from 0 to 255 in text.
use Rattle.std.proofs.Common.{◌≡◌, ℕ, ◌+◌, ◌/◌, ◌%◌, ◌<◌, ◌≤◌, [], ◌∷◌, ◌++◌, ◌∙◌, ap, arith, decimal}
use Rattle.std.proofs.lemmas.Fmt.{decimal_digit, decimal_step}

-- the digits of a number below 1000
pub decimal-two : (n : ℕ) → 10 ≤ n → n < 100 → decimal n ≡ (48 + n / 10) ∷ (48 + n % 10) ∷ []
decimal-two n h k = decimal_step n h (omega (arith, k)) ∙ ap (λ ds. ds ++ ((48 + n % 10) ∷ [])) (decimal_digit (n / 10) (omega (arith, k)))

pub decimal-three : (n : ℕ) → 100 ≤ n → n < 1000 → decimal n ≡ (48 + n / 10 / 10) ∷ (48 + n / 10 % 10) ∷ (48 + n % 10) ∷ []
decimal-three n h k = decimal_step n (omega (arith, h)) (omega (arith, k)) ∙ ap (λ ds. ds ++ ((48 + n % 10) ∷ [])) (decimal-two (n / 10) (omega (arith, h)) (omega (arith, k)))
