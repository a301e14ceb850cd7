-- The first part of a text.
use Rattle.std.proofs.Common.{◌≡◌, ℕ, zero, suc, ◌+◌, ◌-◌, ◌<◌, ◌≤◌, Bool, true, false, eqb, List, [], ◌∷◌, length, take, drop, slice_index, refl, ap, ◌∙◌, arith, add-one}
use Rattle.std.specs.List.{onto_first}
use Rattle.std.proofs.lemmas.List.Splits.{slice_split-cons_yes, slice_split-cons_no}
use Rattle.std.proofs.lemmas.Grind.{common_steps}
use Rattle.dc_text.specs.Parts.{parts_of}

not_true : (b : Bool) → (b ≡ true → ⊥) → b ≡ false
not_true true h = absurd (h refl)
not_true false h = refl

-- The first part ends where the byte first stands.
split_at : (s : ℕ) (text : List ℕ) (at : ℕ) → at < length text → ((k : ℕ) → k < at → eqb (slice_index text k) s ≡ true → ⊥) → eqb (slice_index text at) s ≡ true
    → parts_of s text ≡ take at text ∷ parts_of s (drop (suc at) text)
split_at s [] at h before here = absurd (omega arith)
split_at s (x ∷ xs) zero h before here = slice_split-cons_yes (λ c. eqb c s) x xs here
split_at s (x ∷ xs) (suc k) h before here =
    slice_split-cons_no (λ c. eqb c s) x xs (not_true (eqb x s) (before 0 (omega arith)))
    ∙ ap (onto_first x) (split_at s xs k (omega arith) (λ j lt e. before (suc j) (omega arith) e) here)

pub first_part : (s : ℕ) (text : List ℕ) (at : ℕ) → at < length text → ((k : ℕ) → 0 ≤ k → k < at → eqb (slice_index text k) s ≡ true → ⊥) → eqb (slice_index text at) s ≡ true
    → parts_of s text ≡ take at text ∷ parts_of s (take (length text - (at + 1)) (drop (at + 1) text))
first_part s text at h before here =
    let rest : take (length text - (at + 1)) (drop (at + 1) text) ≡ drop (at + 1) text = grind (arith, common_steps) in
    let e = split_at s text at h (λ k lt e. before k (omega arith) lt e) here in
    rw (rest, add-one) e

-- A text without the byte is one part.
pub only_part : (s : ℕ) (text : List ℕ) → ((k : ℕ) → 0 ≤ k → k < length text → eqb (slice_index text k) s ≡ true → ⊥) → parts_of s text ≡ text ∷ []
only_part s [] none = refl
only_part s (x ∷ xs) none =
    slice_split-cons_no (λ c. eqb c s) x xs (not_true (eqb x s) (none 0 (omega arith) (omega arith)))
    ∙ ap (onto_first x) (only_part s xs (λ k low lt e. none (suc k) (omega arith) (omega arith) e))
