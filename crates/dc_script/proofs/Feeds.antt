-- Line feeds in bytes.
use Rattle.std.proofs.Common.{◌≡◌, ◌≢◌, ℕ, zero, suc, ◌+◌, ◌-◌, ◌<◌, ◌≤◌, ◌⊎◌, inl, inr, true, eqb, List, length, take, drop, slice_index, ap, sym, ◌∙◌, arith, length-drop, length-append, ◌++◌, subst, eq-eqb}
use Rattle.std.proofs.lemmas.List.{get_or-take, get_or-drop, get_or_append_left, drop-take, drop-drop, take_rest}
use Rattle.std.proofs.Math.Seq.{take-append_seam}
use Rattle.std.proofs.lemmas.Bool.{eqb-true}
use Rattle.std.proofs.lemmas.Grind.{common_steps}
use Rattle.dc_script.specs.Lines.{IsOneLine}

-- No line feed stands below a place.
abbrev pub NoneBelow : List ℕ → ℕ → Type 0
NoneBelow bytes n = (k : ℕ) → k < n → slice_index bytes k ≢ 10

length_front : (bytes : List ℕ) (n : ℕ) → n ≤ length bytes → length (take n bytes) ≡ n
length_front bytes n h = grind (arith, common_steps)

pub line_from_below : (bytes : List ℕ) (n : ℕ) → n ≤ length bytes → NoneBelow bytes n → IsOneLine (take n bytes)
line_from_below bytes n h none k lt e =
    let short : k < n = omega (arith, length_front bytes n h) in
    none k short (sym (get_or-take n bytes k 0 short) ∙ e)

pub below_from_line : (bytes : List ℕ) (n : ℕ) → n ≤ length bytes → IsOneLine (take n bytes) → NoneBelow bytes n
below_from_line bytes n h line k lt e = line k (omega (arith, length_front bytes n h)) (get_or-take n bytes k 0 lt ∙ e)

split : (k n : ℕ) → (k < n) ⊎ (n ≤ k)
split k zero = inr (omega arith)
split zero (suc n) = inl (omega arith)
split (suc k) (suc n) = elim (split k n) [ inl h ↦ inl (omega arith) | inr h ↦ inr (omega arith) ]

-- What is known up to a place, and of what stands from there on.
pub below_more : (bytes : List ℕ) (from at : ℕ) → NoneBelow bytes from → ((k : ℕ) → 0 ≤ k → k < at → eqb (slice_index (drop from bytes) k) 10 ≡ true → ⊥) → NoneBelow bytes (from + at)
below_more bytes from at first later k lt e =
    elim (split k from) [
      | inl h ↦ first k h e
      | inr h ↦
          let j : ℕ = k - from in
          let there : k ≡ from + j = omega arith in
          let moved : slice_index (drop from bytes) j ≡ 10 = get_or-drop from bytes j 0 ∙ ap (λ i. slice_index bytes i) (sym there) ∙ e in
          later j (omega arith) (omega arith) (eq-eqb (slice_index (drop from bytes) j) 10 moved)
    ]

-- The rest behind a line.
pub rest_behind : (bytes : List ℕ) (start end len : ℕ) → end ≤ length bytes → start + (len + 1) ≤ end
    → take (end - (start + (len + 1))) (drop (start + (len + 1)) bytes) ≡ drop (len + 1) (take (end - start) (drop start bytes))
rest_behind bytes start end len h k =
    let all : (len + 1) + (end - (start + (len + 1))) ≡ end - start = omega arith in
    ap (take (end - (start + (len + 1)))) (sym (drop-drop (len + 1) start bytes)) ∙ sym (drop-take (len + 1) (end - (start + (len + 1))) (drop start bytes))
    ∙ ap (λ n. drop (len + 1) (take n (drop start bytes))) all

pub length_piece : (bytes : List ℕ) (start end : ℕ) → start ≤ end → end ≤ length bytes → length (take (end - start) (drop start bytes)) ≡ end - start
length_piece bytes start end h k = grind (arith, common_steps)

-- The first feed from a place on is the first of all, where there is none before.
pub first_feed : (bytes : List ℕ) (from at : ℕ) → from ≤ length bytes → IsOneLine (take from bytes)
    → at < length (take (length bytes - from) (drop from bytes))
    → ((k : ℕ) → 0 ≤ k → k < at → eqb (slice_index (take (length bytes - from) (drop from bytes)) k) 10 ≡ true → ⊥)
    → eqb (slice_index (take (length bytes - from) (drop from bytes)) at) 10 ≡ true
    → (from + at < length bytes) × IsOneLine (take (from + at) bytes) × (slice_index bytes (from + at) ≡ 10)
first_feed bytes from at h line lt before here =
    let rest : take (length bytes - from) (drop from bytes) ≡ drop from bytes = take_rest bytes from in
    let short : at < length (drop from bytes) = rw rest at lt in
    let none : (k : ℕ) → 0 ≤ k → k < at → eqb (slice_index (drop from bytes) k) 10 ≡ true → ⊥ = rw rest at before in
    let feed : eqb (slice_index (drop from bytes) at) 10 ≡ true = rw rest at here in
    let within : from + at < length bytes = omega (arith, short, length-drop from bytes) in (
      within,
      line_from_below bytes (from + at) (omega arith) (below_more bytes from at (below_from_line bytes from h line) none),
      sym (get_or-drop from bytes at 0) ∙ eqb-true (slice_index (drop from bytes) at) 10 feed,
    )

-- There is none, where there is none from a place on either.
pub no_feed : (bytes : List ℕ) (from : ℕ) → from ≤ length bytes → IsOneLine (take from bytes)
    → ((k : ℕ) → 0 ≤ k → k < length (take (length bytes - from) (drop from bytes)) → eqb (slice_index (take (length bytes - from) (drop from bytes)) k) 10 ≡ true → ⊥)
    → IsOneLine bytes
no_feed bytes from h line none k lt e =
    let rest : take (length bytes - from) (drop from bytes) ≡ drop from bytes = take_rest bytes from in
    let later : (j : ℕ) → 0 ≤ j → j < length (drop from bytes) → eqb (slice_index (drop from bytes) j) 10 ≡ true → ⊥ = rw rest at none in
    below_more bytes from (length (drop from bytes)) (below_from_line bytes from h line) later k (omega (arith, length-drop from bytes)) e

-- A front of what has no feed has none.
pub shorter : (bytes : List ℕ) (n m : ℕ) → n ≤ m → m ≤ length bytes → IsOneLine (take m bytes) → IsOneLine (take n bytes)
shorter bytes n m h k line = line_from_below bytes n (omega arith) (λ i lt e. below_from_line bytes m k line i (omega arith) e)

pub front_of_whole : (bytes : List ℕ) (n : ℕ) → n ≤ length bytes → IsOneLine bytes → IsOneLine (take n bytes)
front_of_whole bytes n h line = line_from_below bytes n h (λ i lt e. line i (omega arith) e)

pub front_of_both : (xs ys : List ℕ) → IsOneLine (xs ++ ys) → IsOneLine xs
front_of_both xs ys line k lt e = line k (omega (arith, length-append xs ys)) (get_or_append_left xs ys 0 k lt ∙ e)

-- What was searched has no feed, when more stands behind it.
pub searched_more : (xs ys : List ℕ) → IsOneLine xs → IsOneLine (take (length xs) (xs ++ ys))
searched_more xs ys line = rw take-append_seam line

-- Bytes without a feed that are too many for a line.
pub too_long : (rest bytes : List ℕ) (limit : ℕ) → rest ≡ bytes → limit < length rest → IsOneLine rest → (rest ≡ bytes) × (limit < length bytes) × IsOneLine (take (limit + 1) bytes)
too_long rest bytes limit e long line =
    let P : List ℕ → Type 0 = λ bs. IsOneLine (take (limit + 1) bs) in
    (e, omega (arith, ap length e), subst P e (front_of_whole rest (limit + 1) (omega arith) line))
