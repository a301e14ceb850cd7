-- Bytes that are written into a buffer, as those behind its first 14 show them.
use Rattle.std.proofs.Common.{◌≡◌, ℕ, ◌+◌, ◌-◌, ◌≤◌, List, ◌++◌, length, take, drop, refl, sym, ◌∙◌, ap, arith}
use Rattle.std.proofs.lemmas.List.{append_assoc, length-append, length-take-le, length-drop, drop-append-le, drop-take, take_at, take-take, drop-drop, take-append-drop, drop_at}
use Rattle.std.proofs.Math.Seq.{take-append-add}

-- What stands behind the first f bytes where a prefix stays.
behind-prefix : (f n : ℕ) (xs rest : List ℕ) → f + n ≤ length xs → drop f (take (f + n) xs ++ rest) ≡ take n (drop f xs) ++ rest
behind-prefix f n xs rest h =
    let l : length (take (f + n) xs) ≡ f + n = length-take-le (f + n) xs h in
    let inside : f ≤ length (take (f + n) xs) = omega arith in
    drop-append-le f (take (f + n) xs) rest inside ∙ ap (λ ys. ys ++ rest) (drop-take f n xs)

-- The first bytes of a list that begins with these.
take-front : (n k : ℕ) (front more rest : List ℕ) → length front ≡ n → length more ≡ k → take (n + k) (front ++ (more ++ rest)) ≡ front ++ more
take-front n k front more rest h e =
    let l = length-append front more in
    rw (← append_assoc front more rest) (take_at (front ++ more) rest (n + k) (omega arith))

-- Bytes that are written behind the first n.
pub put-view : (f n : ℕ) (xs zs more rest : List ℕ) → f + n ≤ length xs → zs ≡ take (f + n) xs ++ (more ++ rest)
    → take (n + length more) (drop f zs) ≡ take n (drop f xs) ++ more
put-view f n xs zs more rest h e =
    let d = length-drop f xs in
    let l : length (take n (drop f xs)) ≡ n = length-take-le n (drop f xs) (omega arith) in
    ap (λ ys. take (n + length more) (drop f ys)) e
    ∙ ap (λ ys. take (n + length more) ys) (behind-prefix f n xs (more ++ rest) h)
    ∙ take-front n (length more) (take n (drop f xs)) more rest l refl

take-split : (n m k : ℕ) (front rest : List ℕ) → length front ≡ k → n ≡ k + m → take n (front ++ rest) ≡ front ++ take m rest
take-split n m k front rest h e = ap (λ j. take j (front ++ rest)) (e ∙ ap (λ j. j + m) (sym h)) ∙ take-append-add front rest m

-- Bytes that are written over those at a place among the first n.
pub set-view : (f n at k : ℕ) (xs zs more : List ℕ) → f + n ≤ length xs → length more ≡ k → at + k ≤ n → zs ≡ take (f + at) xs ++ (more ++ drop (f + at + k) xs)
    → take n (drop f zs) ≡ take at (take n (drop f xs)) ++ (more ++ drop (at + k) (take n (drop f xs)))
set-view f n at k xs zs more h e s z =
    let d = length-drop f xs in
    let ys : List ℕ = drop f xs in
    let m : ℕ = n - (at + k) in
    let whole : n ≡ at + k + m = omega arith in
    let first : length (take at ys) ≡ at = length-take-le at ys (omega arith) in
    let rest : drop (f + at + k) xs ≡ drop (at + k) ys = ap (λ j. drop j xs) (omega arith) ∙ sym (drop-drop (at + k) f xs) in
    let front : length (take at ys ++ more) ≡ at + k = length-append (take at ys) more ∙ omega arith in
    let left : take n (drop f zs) ≡ take at ys ++ (more ++ take m (drop (at + k) ys)) =
    ap (λ v. take n (drop f v)) z ∙ ap (λ v. take n v) (behind-prefix f at xs (more ++ drop (f + at + k) xs) (omega arith))
    ∙ ap (λ v. take n (take at ys ++ (more ++ v))) rest
    ∙ ap (λ v. take n v) (sym (append_assoc (take at ys) more (drop (at + k) ys)))
    ∙ take-split n m (at + k) (take at ys ++ more) (drop (at + k) ys) front whole
    ∙ append_assoc (take at ys) more (take m (drop (at + k) ys)) in
    let behind : drop (at + k) (take n ys) ≡ take m (drop (at + k) ys) = ap (λ j. drop (at + k) (take j ys)) whole ∙ drop-take (at + k) m ys in
    left ∙ sym (ap (λ v. take at (take n ys) ++ (more ++ v)) behind ∙ ap (λ v. v ++ (more ++ take m (drop (at + k) ys))) (take-take at n ys (omega arith)))

-- The first f bytes, and those behind them.
pub front-view : (f n : ℕ) (xs : List ℕ) → take (f + n) xs ≡ take f xs ++ take n (drop f xs)
front-view f n xs =
    sym (take-append-drop f (take (f + n) xs))
    ∙ ap (λ v. v ++ drop f (take (f + n) xs)) (take-take f (f + n) xs (omega arith))
    ∙ ap (λ v. take f xs ++ v) (drop-take f n xs)

-- Bytes that are written over the first f.
pub front-put : (f n k : ℕ) (xs zs front old : List ℕ) → length front ≡ f → k ≡ f → zs ≡ front ++ drop k xs → take n (drop f xs) ≡ old
    → (take f zs ≡ front) × (take n (drop f zs) ≡ old)
front-put f n k xs zs front old h j e o = (
  ap (λ v. take f v) e ∙ take_at front (drop k xs) f h,
  ap (λ v. take n (drop f v)) e ∙ ap (λ v. take n v) (drop_at front (drop k xs) f h) ∙ ap (λ i. take n (drop i xs)) j ∙ o,
)
