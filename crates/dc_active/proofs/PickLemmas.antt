-- Picking is taking out at the first place that passes.
use Rattle.std.proofs.Common.{◌≡◌, ℕ, zero, suc, ◌+◌, ◌<◌, Bool, true, false, cond, not, ltb, List, [], ◌∷◌, map, length, Option, Some, None, option_map, refl, ap, sym, ◌∙◌, subst, arith}
use Rattle.std.specs.Prelude.{◌==◌, ◌||◌, IfSome}
use Rattle.std.specs.List.{slice_get, remove, position, position_or_len, list_any}
use Rattle.std.proofs.lemmas.Bool.Decides.{nat_tests}
use Rattle.dc_machine.specs.Kept.{AllOf, IsRising}
use Rattle.dc_machine.specs.Machine.{Active, Picked, pick, behind}

position_again : (m k : ℕ) (w : Bool) → ltb m k ≡ w → cond (ltb (1 + m) (suc k)) (Some (1 + m)) None ≡ option_map suc (cond w (Some m) None)
position_again m k true e = let l : ltb (1 + m) (suc k) ≡ true = grind (arith, nat_tests) in let s : 1 + m ≡ suc m = omega arith in ap (λ v. cond v (Some (1 + m)) None) l ∙ ap (λ n. Some n) s
position_again m k false e = let l : ltb (1 + m) (suc k) ≡ false = grind (arith, nat_tests) in ap (λ v. cond v (Some (1 + m)) None) l

position_by : (v : Bool) (m k : ℕ) → cond (ltb (cond (not v) (1 + m) 0) (suc k)) (Some (cond (not v) (1 + m) 0)) None ≡ cond v (Some 0) (option_map suc (cond (ltb m k) (Some m) None))
position_by true m k = let l : ltb 0 (suc k) ≡ true = grind (arith, nat_tests) in ap (λ v. cond v (Some 0) None) l
position_by false m k = position_again m k (ltb m k) refl

pub position_cons : {A : Type 0} (p : A → Bool) (x : A) (xs : List A) → position p (x ∷ xs) ≡ cond (p x) (Some 0) (option_map suc (position p xs))
position_cons p x xs = position_by (p x) (position_or_len p xs) (length xs)

-- What stands behind one that doesn't pass.
behind_at : {A : Type 0} (x : A) (o : Option (Picked A)) (a : A) (xs : List A) → o ≡ Some (record { it = a; others = xs }) → behind x o ≡ Some (record { it = a; others = x ∷ xs })
behind_at x o a xs h = ap (λ p. behind x p) h

pick_by : {A : Type 0} (test : A → Bool) (x : A) (xs : List A) (i : ℕ) (a : A) (v : Bool) (o : Option ℕ) → o ≡ position test xs → cond v (Some 0) (option_map suc o) ≡ Some i → slice_get (x ∷ xs) i ≡ Some a
    → ((j : ℕ) → o ≡ Some j → slice_get xs j ≡ Some a → pick test xs ≡ Some (record { it = a; others = remove xs j }))
    → cond v (Some (record { it = x; others = xs })) (behind x (pick test xs)) ≡ Some (record { it = a; others = remove (x ∷ xs) i })
pick_by test x xs zero a true o e h k f = let same : x ≡ a = cc in ap (λ z. Some (record { it = z; others = xs })) same
pick_by test x xs (suc i) a true o e h k f = cc
pick_by test x xs i a false None e h k f = cc
pick_by test x xs zero a false (Some j) e h k f = absurd (let z : suc j ≡ 0 = cc in omega (arith, z))
pick_by test x xs (suc i) a false (Some j) e h k f = let s : j ≡ i = (let z : suc j ≡ suc i = cc in omega (arith, z)) in
    behind_at x (pick test xs) a (remove xs i) (f i (ap (λ n. Some n) s) k)

-- The first place that passes has what is picked.
pub pick_at : {A : Type 0} (test : A → Bool) (xs : List A) (i : ℕ) (a : A) → position test xs ≡ Some i → slice_get xs i ≡ Some a → pick test xs ≡ Some (record { it = a; others = remove xs i })
unfolding pick
pick_at test [] i a h k = cc
pick_at test (x ∷ xs) i a h k = pick_by test x xs i a (test x) (position test xs) refl (sym (position_cons test x xs) ∙ h) k (λ j e g. pick_at test xs j a e g)

none_by : {A : Type 0} (test : A → Bool) (x : A) (xs : List A) (v : Bool) (o : Option ℕ) → o ≡ position test xs → cond v (Some 0) (option_map suc o) ≡ None → (o ≡ None → pick test xs ≡ None) →
    cond v (Some (record { it = x; others = xs })) (behind x (pick test xs)) ≡ None
none_by test x xs true o e h f = cc
none_by test x xs false None e h f = ap (λ p. behind x p) (f refl)
none_by test x xs false (Some j) e h f = cc

-- Where none passes, none is picked.
pub pick_none : {A : Type 0} (test : A → Bool) (xs : List A) → position test xs ≡ None → pick test xs ≡ None
unfolding pick
pick_none test [] h = refl
pick_none test (x ∷ xs) h = none_by test x xs (test x) (position test xs) refl (sym (position_cons test x xs) ∙ h) (λ e. pick_none test xs e)

-- A serial number that stands behind is greater.
rising_behind : (n : ℕ) (xs : List Active) (i : ℕ) (a : Active) → IsRising n xs → slice_get xs i ≡ Some a → n < a.serial
unfolding IsRising
rising_behind n [] i a h k = cc
rising_behind n (x ∷ xs) zero a h k = let same : x ≡ a = cc in subst (λ (z : Active). n < z.serial) same h.0
rising_behind n (x ∷ xs) (suc i) a h k = let l = rising_behind x.serial xs i a h.1 k in omega (arith, l, h.0)

serial_by : (x : Active) (xs : List Active) (a : Active) (i : ℕ) (v : Bool) → (x.serial == a.serial) ≡ v → x.serial < a.serial → pick (λ b. b.serial == a.serial) xs ≡ Some (record { it = a; others = remove xs i }) →
    cond v (Some (record { it = x; others = xs })) (behind x (pick (λ b. b.serial == a.serial) xs)) ≡ Some (record { it = a; others = x ∷ remove xs i })
serial_by x xs a i true e l h = absurd (grind (arith, nat_tests))
serial_by x xs a i false e l h = behind_at x (pick (λ b. b.serial == a.serial) xs) a (remove xs i) h

same_serial : (a : Active) (xs : List Active) (v : Bool) → (a.serial == a.serial) ≡ v → cond v (Some (record { it = a; others = xs })) (behind a (pick (λ b. b.serial == a.serial) xs)) ≡ Some (record { it = a; others = xs })
same_serial a xs true e = refl
same_serial a xs false e = absurd (grind (arith, nat_tests))

-- Where serial numbers rise, a query is picked by its own.
pub pick_serial : (n : ℕ) (xs : List Active) (i : ℕ) (a : Active) → IsRising n xs → slice_get xs i ≡ Some a → pick (λ b. b.serial == a.serial) xs ≡ Some (record { it = a; others = remove xs i })
unfolding pick IsRising
pick_serial n [] i a h k = cc
pick_serial n (x ∷ xs) zero a h k = let same : x ≡ a = cc in subst (λ (z : Active). cond (z.serial == a.serial) (Some (record { it = z; others = xs })) (behind z (pick (λ b. b.serial == a.serial) xs)) ≡ Some (record { it = a; others = xs })) (sym same) (same_serial a xs (a.serial == a.serial) refl)
pick_serial n (x ∷ xs) (suc i) a h k = serial_by x xs a i (x.serial == a.serial) refl (rising_behind x.serial xs i a h.1 k) (pick_serial x.serial xs i a h.1 k)

-- A place found by what entries show is the place found by what they stand for.
pub position_map : {A B : Type 0} (f : A → B) (p : A → Bool) (q : B → Bool) (xs : List A) → AllOf (λ x. p x ≡ q (f x)) xs → position p xs ≡ position q (map f xs)
unfolding AllOf
position_map f p q [] h = refl
position_map f p q (x ∷ xs) h =
    position_cons p x xs
    ∙ ap (λ v. cond v (Some 0) (option_map suc (position p xs))) h.0
    ∙ ap (λ o. cond (q (f x)) (Some 0) (option_map suc o)) (position_map f p q xs h.1)
    ∙ sym (position_cons q (f x) (map f xs))

pub any_map : {A B : Type 0} (f : A → B) (q : B → Bool) (xs : List A) → list_any (λ x. q (f x)) xs ≡ list_any q (map f xs)
any_map f q [] = refl
any_map f q (x ∷ xs) = ap (λ v. q (f x) || v) (any_map f q xs)

within_by : (n k i : ℕ) (v : Bool) → ltb n k ≡ v → Some i ≡ cond v (Some n) None → i < k
within_by n k i true e h = let same : i ≡ n = cc in let l : n < k = grind (arith, nat_tests) in omega (arith, same, l)
within_by n k i false e h = cc

-- A place that was found stands within.
pub found_within : {A : Type 0} (test : A → Bool) (xs : List A) (o : Option ℕ) → o ≡ position test xs → IfSome o (λ i. i < length xs)
found_within test xs None h = tt
found_within test xs (Some i) h = within_by (position_or_len test xs) (length xs) i _ refl h
