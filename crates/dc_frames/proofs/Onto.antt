-- Frames from the lowest up, and the top one first.
use Rattle.std.proofs.Common.{◌==◌, true, ◌≡◌, ℕ, zero, suc, ◌+◌, ◌-◌, ◌<◌, List, [], ◌∷◌, ◌++◌, length, take, get_or, refl, ap, sym, ◌∙◌, arith, length-set, map}
use Rattle.std.proofs.Math.ListN.{set}
use Rattle.std.proofs.lemmas.Bool.Decides.{nat_tests}
use Rattle.std.specs.List.{refill}
use Rattle.std.proofs.lemmas.List.{take_all, drop_all, append-nil}
use Rattle.dc_frames.specs.declared.frame.Frame.{Frame}
use Rattle.dc_machine.specs.Query as machine
use Rattle.dc_frames.specs.declared.frame.Renamed.{Renamed}
use Rattle.dc_machine.specs.Query.{top, below}
use Rattle.dc_frames.specs.View.{frame_of, alias_of, onto}

pub onto-append : (xs ys : List Frame) (acc : List machine.Frame) → onto (xs ++ ys) acc ≡ onto ys (onto xs acc)
unfolding onto
onto-append [] ys acc = refl
onto-append (x ∷ xs) ys acc = onto-append xs ys (frame_of x ∷ acc)

pub length-onto : (xs : List Frame) (acc : List machine.Frame) → length (onto xs acc) ≡ length xs + length acc
unfolding onto
length-onto [] acc = omega arith
length-onto (x ∷ xs) acc = omega (arith, length-onto xs (frame_of x ∷ acc))

pub take_last : {A : Type 0} (xs : List A) (k : ℕ) (d : A) → length xs ≡ suc k → xs ≡ take k xs ++ get_or xs k d ∷ []
take_last [] k d h = cc
take_last (x ∷ []) zero d h = refl
take_last (x ∷ y ∷ ys) zero d h = absurd (omega arith)
take_last (x ∷ xs) (suc k) d h = ap (λ zs. x ∷ zs) (take_last xs k d (omega arith))

pub set_last : {A : Type 0} (xs : List A) (k : ℕ) (y : A) → length xs ≡ suc k → set xs k y ≡ take k xs ++ y ∷ []
set_last [] k y h = cc
set_last (x ∷ []) zero y h = refl
set_last (x ∷ z ∷ ys) zero y h = absurd (omega arith)
set_last (x ∷ xs) (suc k) y h = ap (λ zs. x ∷ zs) (set_last xs k y (omega arith))

-- frames, by the last of them
pub onto-last : (xs : List Frame) (k : ℕ) (d : Frame) → length xs ≡ suc k → onto xs [] ≡ frame_of (get_or xs k d) ∷ onto (take k xs) []
unfolding onto
onto-last xs k d h = ap (λ zs. onto zs []) (take_last xs k d h) ∙ onto-append (take k xs) (get_or xs k d ∷ []) []

pub onto-set : (xs : List Frame) (k : ℕ) (y : Frame) → length xs ≡ suc k → onto (set xs k y) [] ≡ frame_of y ∷ onto (take k xs) []
unfolding onto
onto-set xs k y h = ap (λ zs. onto zs []) (set_last xs k y h) ∙ onto-append (take k xs) (y ∷ []) []

one_less : (n : ℕ) → 0 < n → n ≡ suc (n - 1)
one_less n h = omega arith

pub top_is : (xs ds : List Frame) (n : ℕ) (d : Frame) → ds ≡ xs → length xs ≡ n → 0 < n → top (onto xs []) ≡ frame_of (get_or ds (n - 1) d)
unfolding top
top_is xs ds n d e h p = ap top (onto-last xs (n - 1) d (h ∙ one_less n p)) ∙ ap (λ zs. frame_of (get_or zs (n - 1) d)) (sym e)

pub rest_is : (xs : List Frame) (n : ℕ) → length xs ≡ suc n → below (onto xs []) ≡ onto (take n xs) []
unfolding below
rest_is [] n h = cc
rest_is (x ∷ xs) n h = ap below (onto-last (x ∷ xs) n x h)

refill_set : {A : Type 0} (xs ds : List A) (n : ℕ) (i : ℕ) (y : A) → ds ≡ xs → n ≡ length xs → refill n xs (set ds i y) ≡ set xs i y
refill_set {A = A} xs ds n i y e h = ap (λ zs. refill n xs (set zs i y)) e ∙ grind (arith, refill, length-set {A = A}, drop_all, take_all, append-nil)

-- frames of which the last is written
pub onto_refill : (xs ds : List Frame) (m n : ℕ) (y : Frame) → ds ≡ xs → m ≡ length xs → length xs ≡ n → 0 < n → onto (refill m xs (set ds (n - 1) y)) [] ≡ frame_of y ∷ below (onto xs [])
onto_refill xs ds m n y e g h p =
    ap (λ zs. onto zs []) (refill_set xs ds m (n - 1) y e g) ∙ onto-set xs (n - 1) y (h ∙ one_less n p)
    ∙ ap (λ zs. frame_of y ∷ zs) (sym (rest_is xs (n - 1) (h ∙ one_less n p)))

-- no frames at all
pub onto-nil : (acc : List machine.Frame) → onto [] acc ≡ acc
unfolding onto
onto-nil acc = refl

pub onto-one : (f : Frame) (acc : List machine.Frame) → onto (f ∷ []) acc ≡ frame_of f ∷ acc
unfolding onto
onto-one f acc = refl

pub top-cons : (f : machine.Frame) (fs : List machine.Frame) → top (f ∷ fs) ≡ f
unfolding top
top-cons f fs = refl

pub rest-cons : (f : machine.Frame) (fs : List machine.Frame) → below (f ∷ fs) ≡ fs
unfolding below
rest-cons f fs = refl

-- one frame less
pub rest_less : (xs : List Frame) → onto (take (length xs - 1) xs) [] ≡ below (onto xs [])
unfolding onto below
rest_less [] = refl
rest_less (x ∷ xs) = let e : length (x ∷ xs) - 1 ≡ length xs = omega arith in rw e (sym (rest_is (x ∷ xs) (length xs) refl))

pub nil_from_test : {A : Type 0} (xs : List A) → (length xs == 0) ≡ true → xs ≡ []
nil_from_test [] h = refl
nil_from_test (x ∷ xs) h = grind (arith, nat_tests)

pub set_second : (xs : List Frame) (acc : List machine.Frame) (k : ℕ) (y : Frame) → length xs ≡ suc (suc k) → onto (set xs k y) acc ≡ top (onto xs acc) ∷ frame_of y ∷ below (below (onto xs acc))
unfolding onto top below
set_second [] acc k y h = cc
set_second (x ∷ []) acc k y h = absurd (omega arith)
set_second (x ∷ z ∷ []) acc zero y h = refl
set_second (x ∷ z ∷ w ∷ xs) acc zero y h = absurd (omega arith)
set_second (x ∷ z ∷ xs) acc (suc k) y h = set_second (z ∷ xs) (frame_of x ∷ acc) k y (omega arith)

pub get_second : (xs : List Frame) (acc : List machine.Frame) (k : ℕ) (d : Frame) → length xs ≡ suc (suc k) → top (below (onto xs acc)) ≡ frame_of (get_or xs k d)
unfolding onto top below
get_second [] acc k d h = cc
get_second (x ∷ []) acc k d h = absurd (omega arith)
get_second (x ∷ z ∷ []) acc zero d h = refl
get_second (x ∷ z ∷ w ∷ xs) acc zero d h = absurd (omega arith)
get_second (x ∷ z ∷ xs) acc (suc k) d h = get_second (z ∷ xs) (frame_of x ∷ acc) k d (omega arith)

two_less : (n : ℕ) → 1 < n → n ≡ suc (suc (n - 2))
two_less n h = omega arith

pub second_is : (xs ds : List Frame) (n : ℕ) (d : Frame) → ds ≡ xs → length xs ≡ n → 1 < n → top (below (onto xs [])) ≡ frame_of (get_or ds (n - 2) d)
second_is xs ds n d e h p = get_second xs [] (n - 2) d (h ∙ two_less n p) ∙ ap (λ zs. frame_of (get_or zs (n - 2) d)) (sym e)

pub onto_refill_second : (xs ds : List Frame) (m n : ℕ) (y : Frame) → ds ≡ xs → m ≡ length xs → length xs ≡ n → 1 < n → onto (refill m xs (set ds (n - 2) y)) [] ≡ top (onto xs []) ∷ frame_of y ∷ below (below (onto xs []))
onto_refill_second xs ds m n y e g h p = ap (λ zs. onto zs []) (refill_set xs ds m (n - 2) y e g) ∙ set_second xs [] (n - 2) y (h ∙ two_less n p)

-- one alias more
pub aliases_more : (xs : List Renamed) (a : Renamed) → map alias_of (xs ++ a ∷ []) ≡ map alias_of xs ++ alias_of a ∷ []
aliases_more [] a = refl
aliases_more (x ∷ xs) a = ap (λ zs. alias_of x ∷ zs) (aliases_more xs a)

pub ruleset steps = (aliases_more, nil_from_test, second_is, onto_refill_second, rest_less, onto-append, onto-nil, onto-one, length-onto, top_is, rest_is, onto_refill, top-cons, rest-cons)
