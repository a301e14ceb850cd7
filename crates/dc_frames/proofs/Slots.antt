-- Frames in the first of five slots.
use Rattle.std.proofs.Common.{◌≡◌, ℕ, zero, suc, ◌+◌, ◌-◌, ◌<◌, ◌≤◌, List, [], ◌∷◌, ◌++◌, length, take, get_or, refl, ap, sym, ◌∙◌, arith, length-set}
use Rattle.std.proofs.Math.ListN.{set}
use Rattle.std.proofs.lemmas.List.{length-take-le}
use Rattle.dc_frames.specs.declared.frame.Frame.{Frame}
use Rattle.dc_machine.specs.Query as machine
use Rattle.dc_machine.specs.Query.{top, below}
use Rattle.dc_frames.specs.View.{frame_of, onto}
use Rattle.dc_frames.proofs.Onto.{length-onto, onto-append, onto-nil, onto-last, onto-set, rest_is, set_second, get_second}

-- so many frames
pub taken_length : (n : ℕ) (xs : List Frame) → n ≤ length xs → length (onto (take n xs) []) ≡ n
taken_length n xs h = omega (arith, length-onto (take n xs) [], length-take-le n xs h)

pub length_taken : (n : ℕ) (xs : List Frame) → n ≤ length xs → n ≡ length (onto (take n xs) [])
length_taken n xs h = sym (taken_length n xs h)

-- what is written beyond them, or at the last but one of them
take_past : {A : Type 0} (n : ℕ) (xs : List A) (d : A) → n < length xs → take (suc n) xs ≡ take n xs ++ get_or xs n d ∷ []
take_past n [] d h = absurd (omega arith)
take_past zero (x ∷ xs) d h = refl
take_past (suc n) (x ∷ xs) d h = ap (λ zs. x ∷ zs) (take_past n xs d (omega arith))

take_set : {A : Type 0} (n k : ℕ) (xs : List A) (y : A) → k < n → take n (set xs k y) ≡ set (take n xs) k y
take_set zero k xs y h = absurd (omega arith)
take_set (suc n) k [] y h = refl
take_set (suc n) zero (x ∷ xs) y h = refl
take_set (suc n) (suc k) (x ∷ xs) y h = ap (λ zs. x ∷ zs) (take_set n k xs y (omega arith))

take_unset : {A : Type 0} (n : ℕ) (xs : List A) (y : A) → take n (set xs n y) ≡ take n xs
take_unset zero xs y = refl
take_unset (suc n) [] y = refl
take_unset (suc n) (x ∷ xs) y = ap (λ zs. x ∷ zs) (take_unset n xs y)

get_set : {A : Type 0} (n : ℕ) (xs : List A) (y d : A) → n < length xs → get_or (set xs n y) n d ≡ y
get_set n [] y d h = absurd (omega arith)
get_set zero (x ∷ xs) y d h = refl
get_set (suc n) (x ∷ xs) y d h = get_set n xs y d (omega arith)

get_take : {A : Type 0} (n k : ℕ) (xs : List A) (d : A) → k < n → get_or (take n xs) k d ≡ get_or xs k d
get_take zero k xs d h = absurd (omega arith)
get_take (suc n) k [] d h = refl
get_take (suc n) zero (x ∷ xs) d h = refl
get_take (suc n) (suc k) (x ∷ xs) d h = get_take n k xs d (omega arith)

onto-last_more : (xs : List Frame) (y : Frame) → onto (xs ++ y ∷ []) [] ≡ frame_of y ∷ onto xs []
unfolding onto
onto-last_more xs y = onto-append xs (y ∷ []) []

take_twice : {A : Type 0} (k n : ℕ) (xs : List A) → k ≤ n → take k (take n xs) ≡ take k xs
take_twice zero n xs h = refl
take_twice (suc k) zero xs h = absurd (omega arith)
take_twice (suc k) (suc n) [] h = refl
take_twice (suc k) (suc n) (x ∷ xs) h = ap (λ zs. x ∷ zs) (take_twice k n xs (omega arith))

more : (n : ℕ) → n + 1 ≡ suc n
more n = omega arith

-- one frame more
pub slot_raised : (n : ℕ) (xs : List Frame) (y : Frame) → n < length xs → onto (take (n + 1) (set xs n y)) [] ≡ frame_of y ∷ onto (take n xs) []
slot_raised n xs y h =
    ap (λ m. onto (take m (set xs n y)) []) (more n)
    ∙ ap (λ zs. onto zs []) (take_past n (set xs n y) y (rw (length-set xs n y) h))
    ∙ ap (λ zs. onto (zs ++ get_or (set xs n y) n y ∷ []) []) (take_unset n xs y)
    ∙ ap (λ z. onto (take n xs ++ z ∷ []) []) (get_set n xs y y h)
    ∙ onto-last_more (take n xs) y

one_less : (n : ℕ) → 0 < n → n ≡ suc (n - 1)
one_less n h = omega arith

two_less : (n : ℕ) → 1 < n → n ≡ suc (suc (n - 2))
two_less n h = omega arith

-- one frame less
pub slot_lowered : (n : ℕ) (xs : List Frame) → 0 < n → n ≤ length xs → onto (take (n - 1) xs) [] ≡ below (onto (take n xs) [])
slot_lowered n xs p h =
    sym (rest_is (take n xs) (n - 1) (length-take-le n xs h ∙ one_less n p)
    ∙ ap (λ zs. onto zs []) (take_twice (n - 1) n xs (omega (arith, p))))

-- the last of them
pub slot_top : (n : ℕ) (xs : List Frame) (d : Frame) → 0 < n → n ≤ length xs → top (onto (take n xs) []) ≡ frame_of (get_or xs (n - 1) d)
unfolding top
slot_top n xs d p h =
    ap top (onto-last (take n xs) (n - 1) d (length-take-le n xs h ∙ one_less n p))
    ∙ ap frame_of (get_take n (n - 1) xs d (omega (arith, p)))

pub slot_written : (n : ℕ) (xs : List Frame) (y : Frame) → 0 < n → n ≤ length xs → onto (take n (set xs (n - 1) y)) [] ≡ frame_of y ∷ below (onto (take n xs) [])
slot_written n xs y p h =
    ap (λ zs. onto zs []) (take_set n (n - 1) xs y (omega (arith, p)))
    ∙ onto-set (take n xs) (n - 1) y (length-take-le n xs h ∙ one_less n p)
    ∙ ap (λ zs. frame_of y ∷ zs) (sym (rest_is (take n xs) (n - 1) (length-take-le n xs h ∙ one_less n p)))

-- the one below it
pub slot_second : (n : ℕ) (xs : List Frame) (d : Frame) → 1 < n → n ≤ length xs → top (below (onto (take n xs) [])) ≡ frame_of (get_or xs (n - 2) d)
slot_second n xs d p h =
    get_second (take n xs) [] (n - 2) d (length-take-le n xs h ∙ two_less n p)
    ∙ ap frame_of (get_take n (n - 2) xs d (omega (arith, p)))

pub slot_second_written : (n : ℕ) (xs : List Frame) (y : Frame) → 1 < n → n ≤ length xs → onto (take n (set xs (n - 2) y)) [] ≡ top (onto (take n xs) []) ∷ frame_of y ∷ below (below (onto (take n xs) []))
slot_second_written n xs y p h =
    ap (λ zs. onto zs []) (take_set n (n - 2) xs y (omega (arith, p)))
    ∙ set_second (take n xs) [] (n - 2) y (length-take-le n xs h ∙ two_less n p)

pub ruleset slots = (taken_length, length_taken, onto-nil, slot_raised, slot_lowered, slot_top, slot_written, slot_second, slot_second_written)
