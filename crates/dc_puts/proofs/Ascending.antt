-- Lists of numbers that ascend, and have the same elements.
use Rattle.std.proofs.Common.{◌≡◌, ℕ, suc, ◌+◌, ◌<◌, ◌≤◌, Bool, true, false, cond, ◌==◌, List, [], ◌∷◌, length, map, get_or, refl, sym, ◌∙◌, ap, arith, filter, zero-add, inl, inr}
use Rattle.std.specs.List.{sum_by, AllByRecursion}
use Rattle.std.specs.List.Sorted.{IsPermutation}
use Rattle.std.proofs.lemmas.List.Sums.{sum_by-cons}
use Rattle.std.proofs.lemmas.List.Sorted.{sum_by-IsPermutation}
use Rattle.std.proofs.lemmas.Bool.{cases_lt}
use Rattle.std.proofs.lemmas.Bool.Decides.{nat_tests}

abbrev pub Ascends : List ℕ → Type 0
Ascends [] = Unit {0}
Ascends (x ∷ xs) = AllByRecursion (λ y. x ≤ y) xs × Ascends xs

is_at : ℕ → ℕ → ℕ
is_at x y = cond (y == x) 1 0

not_at : (x y : ℕ) → x < y → is_at x y ≡ 0
unfolding is_at
not_at x y h = let e : (y == x) ≡ false = grind (arith, nat_tests) in rw e refl

one_at : (x : ℕ) → is_at x x ≡ 1
unfolding is_at
one_at x = let e : (x == x) ≡ true = grind (arith, nat_tests) in rw e refl

none_above : (x : ℕ) (ys : List ℕ) → AllByRecursion (λ y. x < y) ys → sum_by (is_at x) ys ≡ 0
none_above x [] h = refl
none_above x (y ∷ ys) h = sum_by-cons (is_at x) y ys ∙ omega (arith, not_at x y h.0, none_above x ys h.1)

pub all_weaker : {X : Type 0} (P Q : X → Type 0) → ((x : X) → P x → Q x) → (xs : List X) → AllByRecursion P xs → AllByRecursion Q xs
all_weaker P Q f [] h = tt
all_weaker P Q f (x ∷ xs) h = (f x h.0, all_weaker P Q f xs h.1)

not_less : (x y : ℕ) (xs ys : List ℕ) → AllByRecursion (λ z. y ≤ z) ys → ((f : ℕ → ℕ) → sum_by f (x ∷ xs) ≡ sum_by f (y ∷ ys)) → x < y → ⊥
not_less x y xs ys b h l =
    let above : AllByRecursion (λ z. x < z) ys = all_weaker (λ z. y ≤ z) (λ z. x < z) (λ z k. omega arith) ys b in
    omega (arith, h (is_at x), sum_by-cons (is_at x) x xs, one_at x, none_above x (y ∷ ys) (l, above))

heads : (x y : ℕ) → (x < y → ⊥) → (y < x → ⊥) → x ≡ y
heads x y f g = elim (cases_lt x y) [ inl l ↦ absurd (f l) | inr k ↦ (elim (cases_lt y x) [ inl l ↦ absurd (g l) | inr k' ↦ omega arith ]) ]

-- lists that ascend and have the same elements are the same
pub same_lists : (xs ys : List ℕ) → Ascends xs → Ascends ys → ((f : ℕ → ℕ) → sum_by f xs ≡ sum_by f ys) → xs ≡ ys
same_lists [] [] a b h = refl
same_lists [] (y ∷ ys) a b h = absurd (omega (arith, h (λ n. 1), sum_by-cons (λ n. 1) y ys))
same_lists (x ∷ xs) [] a b h = absurd (omega (arith, h (λ n. 1), sum_by-cons (λ n. 1) x xs))
same_lists (x ∷ xs) (y ∷ ys) a b h =
    let e : x ≡ y = heads x y (not_less x y xs ys b.0 h) (not_less y x ys xs a.0 (λ f. sym (h f))) in
    let rest : xs ≡ ys = same_lists xs ys a.1 b.1 (λ f. omega (arith, h f, sum_by-cons f x xs, sum_by-cons f y ys, ap f e)) in
    ap (λ n. n ∷ xs) e ∙ ap (λ zs. y ∷ zs) rest

kept_by : {X : Type 0} (f : X → ℕ) (b : Bool) (x : X) (xs : List X) → sum_by f (cond b (x ∷ xs) xs) ≡ cond b (f x) 0 + sum_by f xs
kept_by f true x xs = sum_by-cons f x xs
kept_by f false x xs = sym (zero-add (sum_by f xs))

sum_kept : {X : Type 0} (f : X → ℕ) (p : X → Bool) (xs : List X) → sum_by f (filter p xs) ≡ sum_by (λ x. cond (p x) (f x) 0) xs
sum_kept f p [] = refl
sum_kept f p (x ∷ xs) =
    kept_by f (p x) x (filter p xs) ∙ ap (λ n. cond (p x) (f x) 0 + n) (sum_kept f p xs) ∙ sym (sum_by-cons (λ x. cond (p x) (f x) 0) x xs)

pub sum_moved : (f : ℕ → ℕ) (p : ℕ → Bool) (xs ys : List ℕ) → IsPermutation xs ys → sum_by f (filter p ys) ≡ sum_by f (filter p xs)
sum_moved f p xs ys h = sum_kept f p ys ∙ sum_by-IsPermutation (λ x. cond (p x) (f x) 0) xs ys h ∙ sym (sum_kept f p xs)

map_by : {X Y : Type 0} (g : X → Y) (b : Bool) (x : X) (xs : List X) (ys : List Y) → ys ≡ map g xs → cond b (g x ∷ ys) ys ≡ map g (cond b (x ∷ xs) xs)
map_by g true x xs ys e = ap (λ zs. g x ∷ zs) e
map_by g false x xs ys e = e

pub filter-map : {X Y : Type 0} (q : Y → Bool) (g : X → Y) (xs : List X) → filter q (map g xs) ≡ map g (filter (λ x. q (g x)) xs)
filter-map q g [] = refl
filter-map q g (x ∷ xs) = map_by g (q (g x)) x (filter (λ x. q (g x)) xs) (filter q (map g xs)) (filter-map q g xs)

all_by : {X : Type 0} (Q : X → Type 0) (b : Bool) (x : X) (xs : List X) → (b ≡ true → Q x) → AllByRecursion Q xs → AllByRecursion Q (cond b (x ∷ xs) xs)
all_by Q true x xs f h = (f refl, h)
all_by Q false x xs f h = h

-- what holds of each holds of those that are kept
pub all_kept : {X : Type 0} (P Q : X → Type 0) (p : X → Bool) → ((y : X) → p y ≡ true → P y → Q y) → (xs : List X) → AllByRecursion P xs → AllByRecursion Q (filter p xs)
all_kept P Q p f [] h = tt
all_kept P Q p f (x ∷ xs) h = all_by Q (p x) x (filter p xs) (λ e. f x e h.0) (all_kept P Q p f xs h.1)

-- no element comes before an earlier one
abbrev pub Up : {X : Type 0} → (X → X → Bool) → List X → Type 0
Up lt [] = Unit {0}
Up lt (x ∷ xs) = AllByRecursion (λ y. lt y x ≡ false) xs × Up lt xs

all_of : {X : Type 0} (P : X → Type 0) (d : X) (xs : List X) → ((k : ℕ) → k < length xs → P (get_or xs k d)) → AllByRecursion P xs
all_of P d [] f = tt
all_of P d (x ∷ xs) f = (f 0 (omega arith), all_of P d xs (λ k h. f (suc k) (omega arith)))

pub up_of : {X : Type 0} (lt : X → X → Bool) (d : X) (xs : List X) → ((i j : ℕ) → i < j → j < length xs → lt (get_or xs j d) (get_or xs i d) ≡ false) → Up lt xs
up_of lt d [] far = tt
up_of lt d (x ∷ xs) far = (all_of (λ y. lt y x ≡ false) d xs (λ k h. far 0 (suc k) (omega arith) (omega arith)), up_of lt d xs (λ i j a b. far (suc i) (suc j) (omega arith) (omega arith)))

ascends_by : (b : Bool) (x : ℕ) (xs : List ℕ) → (b ≡ true → AllByRecursion (λ y. x ≤ y) xs) → Ascends xs → Ascends (cond b (x ∷ xs) xs)
ascends_by true x xs f h = (f refl, h)
ascends_by false x xs f h = h

pub ascends_kept : (lt : ℕ → ℕ → Bool) (p : ℕ → Bool) → ((i j : ℕ) → p i ≡ true → p j ≡ true → lt j i ≡ false → i ≤ j) → (xs : List ℕ) → Up lt xs → Ascends (filter p xs)
ascends_kept lt p r [] h = tt
ascends_kept lt p r (x ∷ xs) h =
    ascends_by (p x) x (filter p xs) (λ e. all_kept (λ y. lt y x ≡ false) (λ y. x ≤ y) p (λ y k l. r x y e k l) xs h.0) (ascends_kept lt p r xs h.1)

pub ascends_filter : (p : ℕ → Bool) (xs : List ℕ) → Ascends xs → Ascends (filter p xs)
ascends_filter p [] h = tt
ascends_filter p (x ∷ xs) h = ascends_by (p x) x (filter p xs) (λ e. all_kept (λ y. x ≤ y) (λ y. x ≤ y) p (λ y k l. l) xs h.0) (ascends_filter p xs h.1)
