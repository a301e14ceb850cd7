-- Elements at a place, and lists with one more or one less.
use Rattle.std.proofs.Common.{◌≡◌, ℕ, zero, suc, ◌+◌, ◌<◌, ◌≤◌, Bool, true, false, cond, not, ltb, List, [], ◌∷◌, ◌++◌, map, length, get_or, Option, Some, None, Result, Ok, is_ok, refl, ap, sym, ◌∙◌, subst, arith}
use Rattle.std.specs.List.{slice_get, remove, insert, position, position_or_len}
use Rattle.std.specs.Option.{unwrap_or, option_to_list}
use Rattle.std.proofs.lemmas.Bool.Decides.{nat_tests}
use Rattle.dc_machine.specs.Kept.{AllOf}

-- What stands at a place stands within.
pub get_below : {A : Type 0} (xs : List A) (i : ℕ) (a : A) → slice_get xs i ≡ Some a → i < length xs
get_below [] i a h = cc
get_below (x ∷ xs) zero a h = omega arith
get_below (x ∷ xs) (suc i) a h = omega (arith, get_below xs i a h)

-- What was read at a place, seen by f.
pub get_read : {A B : Type 0} (f : A → B) (xs : List A) (i : ℕ) (x : A) → i < length xs → x ≡ get_or xs i x → slice_get (map f xs) i ≡ Some (f x)
get_read f [] i x l h = absurd (omega (arith, l))
get_read f (y ∷ ys) zero x l h = ap (λ z. Some (f z)) (sym h)
get_read f (y ∷ ys) (suc i) x l h = get_read f ys i x (omega (arith, l)) h

pub all_read : {A : Type 0} (P : A → Type 0) (xs : List A) (i : ℕ) (x : A) → i < length xs → x ≡ get_or xs i x → AllOf P xs → P x
unfolding AllOf
all_read P [] i x l h k = absurd (omega (arith, l))
all_read P (y ∷ ys) zero x l h k = subst P (sym h) k.0
all_read P (y ∷ ys) (suc i) x l h k = all_read P ys i x (omega (arith, l)) h k.1

-- One is taken out.
pub map_remove : {A B : Type 0} (f : A → B) (xs : List A) (i : ℕ) → map f (remove xs i) ≡ remove (map f xs) i
map_remove f [] zero = refl
map_remove f [] (suc i) = refl
map_remove f (x ∷ xs) zero = refl
map_remove f (x ∷ xs) (suc i) = ap (λ ys. f x ∷ ys) (map_remove f xs i)

pub all_remove : {A : Type 0} (P : A → Type 0) (xs : List A) (i : ℕ) → AllOf P xs → AllOf P (remove xs i)
unfolding AllOf
all_remove P [] zero h = tt
all_remove P [] (suc i) h = tt
all_remove P (x ∷ xs) zero h = h.1
all_remove P (x ∷ xs) (suc i) h = (h.0, all_remove P xs i h.1)

-- One is put in.
pub map_insert : {A B : Type 0} (f : A → B) (xs : List A) (i : ℕ) (x : A) → map f (insert xs i x) ≡ insert (map f xs) i (f x)
map_insert f [] zero x = refl
map_insert f [] (suc i) x = refl
map_insert f (y ∷ ys) zero x = refl
map_insert f (y ∷ ys) (suc i) x = ap (λ zs. f y ∷ zs) (map_insert f ys i x)

pub all_insert : {A : Type 0} (P : A → Type 0) (xs : List A) (i : ℕ) (x : A) → P x → AllOf P xs → AllOf P (insert xs i x)
unfolding AllOf
all_insert P [] zero x p h = (p, tt)
all_insert P [] (suc i) x p h = (p, tt)
all_insert P (y ∷ ys) zero x p h = (p, h)
all_insert P (y ∷ ys) (suc i) x p h = (h.0, all_insert P ys i x p h.1)

-- One at the end.
pub all_push : {A : Type 0} (P : A → Type 0) (xs : List A) (x : A) → AllOf P xs → P x → AllOf P (xs ++ (x ∷ []))
unfolding AllOf
all_push P [] x h p = (p, tt)
all_push P (y ∷ ys) x h p = (h.0, all_push P ys x h.1 p)

pub all_front : {A : Type 0} (P : A → Type 0) (xs ys : List A) → AllOf P (xs ++ ys) → AllOf P xs
unfolding AllOf
all_front P [] ys h = tt
all_front P (x ∷ xs) ys h = (h.0, all_front P xs ys h.1)

pub all_back : {A : Type 0} (P : A → Type 0) (xs ys : List A) → AllOf P (xs ++ ys) → AllOf P ys
unfolding AllOf
all_back P [] ys h = h
all_back P (x ∷ xs) ys h = all_back P xs ys h.1

pub all_one : {A : Type 0} (P : A → Type 0) (x : A) → AllOf P (x ∷ []) → P x
unfolding AllOf
all_one P x h = h.0

pub all_none : {A : Type 0} (P : A → Type 0) → AllOf P []
unfolding AllOf
all_none P = tt

-- What an edit leaves that went well.
pub done : {A E B : Type 0} (r : Result A E) (u : A) (xs ys zs : B) → r ≡ Ok u → ys ≡ cond (is_ok r) xs zs → ys ≡ xs
done r u xs ys zs h e = e ∙ ap (λ v. cond (is_ok v) xs zs) h

-- What a pop gave and left.
pub all_pop : {A : Type 0} (P : A → Type 0) (o : Option A) (x : A) (xs ys : List A) → o ≡ Some x → xs ≡ ys ++ option_to_list o → AllOf P xs → AllOf P ys × P x
all_pop P o x xs ys h e k =
    let whole : xs ≡ ys ++ (x ∷ []) = e ∙ ap (λ p. ys ++ option_to_list p) h in
    let all : AllOf P (ys ++ (x ∷ [])) = subst (λ zs. AllOf P zs) whole k in
    (all_front P ys (x ∷ []) all, all_one P x (all_back P ys (x ∷ []) all))

or_len_by : (n k : ℕ) (v : Bool) → ltb n k ≡ v → n ≤ k → unwrap_or (cond v (Some n) None) k ≡ n
or_len_by n k true e l = refl
or_len_by n k false e l = grind (arith, nat_tests)

prefix_by : (v : Bool) (m k : ℕ) → m ≤ k → cond (not v) (1 + m) 0 ≤ suc k
prefix_by true m k h = omega arith
prefix_by false m k h = omega (arith, h)

pub place_most : {A : Type 0} (p : A → Bool) (xs : List A) → position_or_len p xs ≤ length xs
place_most p [] = omega arith
place_most p (x ∷ xs) = prefix_by (p x) (position_or_len p xs) (length xs) (place_most p xs)

-- The first place that passes, or the length.
pub place_or_len : {A : Type 0} (p : A → Bool) (xs : List A) → unwrap_or (position p xs) (length xs) ≡ position_or_len p xs
place_or_len p xs = or_len_by (position_or_len p xs) (length xs) _ refl (place_most p xs)
