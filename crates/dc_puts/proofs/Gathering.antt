-- Bytes that are gathered, as long as they fit.
use Rattle.std.proofs.Common.{◌≡◌, ℕ, ◌+◌, ◌<◌, ◌≤◌, true, false, List, ◌++◌, length, sym, ◌∙◌, ap, arith, length-append, append_assoc, subst}
use Rattle.std.specs.Prelude.{nat_le}
use Rattle.std.proofs.lemmas.Bool.Decides.{nat_tests}
use Rattle.dc_puts.specs.declared.gathered.Gathered.{Gathered}
use Rattle.dc_puts.specs.Held.{Holds}

short_not : (n m : ℕ) → nat_le n 8192 ≡ false → n ≤ m → nat_le m 8192 ≡ false
short_not n m h k = grind (arith, nat_tests)

-- more than fits
pub stays_over : (b c : Gathered) (xs ys : List ℕ) → c.fits ≡ false → b.fits ≡ false → Holds b xs → Holds c (xs ++ ys)
stays_over b c xs ys e f h = record {
  short = e ∙ sym (short_not (length xs) (length (xs ++ ys)) (sym h.short ∙ f) (omega (arith, length-append xs ys)));
  bytes = λ g. absurd (cc);
}

pub goes_over : (c : Gathered) (xs ys : List ℕ) → c.fits ≡ false → 8192 < length xs + length ys → Holds c (xs ++ ys)
goes_over c xs ys e l = record {
  short = e ∙ sym (over (length (xs ++ ys)) (omega (arith, length-append xs ys)));
  bytes = λ g. absurd (cc);
} where
  over : (n : ℕ) → 8192 < n → nat_le n 8192 ≡ false
  over n h = grind (arith, nat_tests)

pub still_fits : (b c : Gathered) (xs ys : List ℕ) → c.fits ≡ true → b.fits ≡ true → c.bytes.items ≡ b.bytes.items ++ ys → length b.bytes.items + length ys ≤ 8192 → Holds b xs → Holds c (xs ++ ys)
still_fits b c xs ys e f i l h =
    let same : b.bytes.items ≡ xs = h.bytes f in
    record {
      short = e ∙ sym (under (length (xs ++ ys)) (omega (arith, length-append xs ys, ap length same)));
      bytes = λ g. i ∙ ap (λ zs. zs ++ ys) same;
    } where
      under : (n : ℕ) → n ≤ 8192 → nat_le n 8192 ≡ true
      under n h = grind (arith, nat_tests)

pub ruleset gathering = (stays_over, goes_over, still_fits)

pub two_parts : (c : Gathered) (xs ys zs : List ℕ) → Holds c ((xs ++ ys) ++ zs) → Holds c (xs ++ (ys ++ zs))
two_parts c xs ys zs h = subst (Holds c) (append_assoc xs ys zs) h

pub three_parts : (c : Gathered) (xs ys zs ws : List ℕ) → Holds c (((xs ++ ys) ++ zs) ++ ws) → Holds c (xs ++ (ys ++ (zs ++ ws)))
three_parts c xs ys zs ws h = subst (Holds c) (append_assoc xs ys (zs ++ ws)) (subst (Holds c) (append_assoc (xs ++ ys) zs ws) h)

pub ruleset framing = (two_parts, goes_over)

pub ruleset items = (two_parts, three_parts)
