-- Names in order: a list that is sorted is the list in order of any that has the same names.
use Rattle.std.proofs.Common.{◌≡◌, ℕ, ◌+◌, ◌<◌, ◌≤◌, suc, Bool, true, false, cond, List, [], ◌∷◌, length, get_or, refl, sym, ap, ◌∙◌, arith, sum_by, Option, Some, None, unwrap_or}
use Rattle.std.specs.Prelude.{IsPermutation, IsSorted}
use Rattle.std.specs.Ordering.{is_lt, is_eq, ordering_reverse, nat_cmp}
use Rattle.std.specs.declared.cmp.Ordering.{Ordering}
use Rattle.std.specs.declared.cmp.Ordering.TheVariants.{Less, Equal, Greater}
use Rattle.std.proofs.lemmas.Bool.{cond_both, false≢true}
use Rattle.std.specs.Cmp.{IsStrictWeakOrder}
use Rattle.std.specs.Cmp.Lexicographic.{slice_cmp, nat_list_cmp_total, texts_ties, same_text}
use Rattle.std.proofs.lemmas.List.Sums.{sum_by-cons}
use Rattle.std.proofs.lemmas.List.Sorted.{ranks_by, sorted_far, sum_by-IsPermutation}
use Rattle.dc_config.specs.Folders.{before, put_in, in_order, listing}

weak : IsStrictWeakOrder before
weak = ranks_by nat_list_cmp_total (λ n. n)

-- no name of the list comes before this one
abbrev NoneBefore : List ℕ → List (List ℕ) → Type 0
NoneBefore n [] = Unit {0}
NoneBefore n (m ∷ ms) = (before m n ≡ false) × NoneBefore n ms

-- each name has none behind it that comes before it
abbrev Ordered : List (List ℕ) → Type 0
Ordered [] = Unit {0}
Ordered (n ∷ ns) = NoneBefore n ns × Ordered ns

tied_by : (o p : Ordering) → o ≡ ordering_reverse p → is_lt o ≡ false → is_lt p ≡ false → is_eq p ≡ true
tied_by o Less e h k = cc
tied_by o Equal e h k = refl
tied_by o Greater e h k = absurd (false≢true (sym h ∙ ap is_lt e))

-- names of which neither comes first are equal
same_name : (a b : List ℕ) → before a b ≡ false → before b a ≡ false → a ≡ b
same_name a b h k = sym (same_text b a (sym (texts_ties b a ∙ tied_by (slice_cmp nat_cmp a b) (slice_cmp nat_cmp b a) (nat_list_cmp_total.antisymm a b) h k)))

-- in order

none_put : (m n : List ℕ) (ms : List (List ℕ)) → before n m ≡ false → NoneBefore m ms → NoneBefore m (put_in n ms)
none_put m n [] h k = (h, tt)
none_put m n (x ∷ xs) h k = cond_both (before x n) (x ∷ put_in n xs) (n ∷ x ∷ xs) (NoneBefore m) (λ _. (k.0, none_put m n xs h k.1)) (λ _. (h, k))

lower_bound : (n m : List ℕ) (ms : List (List ℕ)) → before m n ≡ false → NoneBefore m ms → NoneBefore n ms
lower_bound n m [] h k = tt
lower_bound n m (x ∷ xs) h k = (weak.chain x m n k.0 h, lower_bound n m xs h k.1)

ordered_put : (n : List ℕ) (ms : List (List ℕ)) → Ordered ms → Ordered (put_in n ms)
ordered_put n [] o = (tt, tt)
ordered_put n (x ∷ xs) o =
    cond_both (before x n) (x ∷ put_in n xs) (n ∷ x ∷ xs) Ordered (λ h. (none_put x n xs (weak.one_way x n h) o.0, ordered_put n xs o.1)) (λ h. ((h, lower_bound n x xs h o.0), o))

ordered_all : (ns : List (List ℕ)) → Ordered (in_order ns)
ordered_all [] = tt
ordered_all (n ∷ ns) = ordered_put n (in_order ns) (ordered_all ns)

-- the same names

count_put : (f : List ℕ → ℕ) (n : List ℕ) (ms : List (List ℕ)) → sum_by f (put_in n ms) ≡ f n + sum_by f ms
count_put f n [] = sum_by-cons f n []
count_put f n (x ∷ xs) =
    let rest = count_put f n xs in
    let put = sum_by-cons f x (put_in n xs) in
    let all = sum_by-cons f x xs in
    cond_both (before x n) (x ∷ put_in n xs) (n ∷ x ∷ xs) (λ l. sum_by f l ≡ f n + sum_by f (x ∷ xs)) (λ _. omega (arith, rest, put, all)) (λ _. sum_by-cons f n (x ∷ xs))

count_all : (f : List ℕ → ℕ) (ns : List (List ℕ)) → sum_by f (in_order ns) ≡ sum_by f ns
count_all f [] = refl
count_all f (n ∷ ns) = count_put f n (in_order ns) ∙ ap (λ s. f n + s) (count_all f ns) ∙ sym (sum_by-cons f n ns)

-- how many names come before one
abbrev earlier : List ℕ → List ℕ → ℕ
earlier n m = cond (before m n) 1 0

none_earlier : (n : List ℕ) (ms : List (List ℕ)) → NoneBefore n ms → sum_by (earlier n) ms ≡ 0
none_earlier n [] h = refl
none_earlier n (m ∷ ms) h = let rest = none_earlier n ms h.1 in let here : earlier n m ≡ 0 = ap (λ b. cond b 1 0) h.0 in let all = sum_by-cons (earlier n) m ms in omega (arith, rest, here, all)

not_itself : (n : List ℕ) → before n n ≡ false
not_itself n = by (before n n) (weak.one_way n n)
  where
    by : (b : Bool) → (b ≡ true → b ≡ false) → b ≡ false
    by true f = f refl
    by false f = refl

flag : (b : Bool) (n : ℕ) → n ≡ cond b 1 0 → n ≡ 0 → b ≡ false
flag true n e z = absurd (omega (arith, e, z))
flag false n e z = refl

-- the first name comes before none of the other list
not_before_first : (x y : List ℕ) (xs ys : List (List ℕ)) → NoneBefore y ys → sum_by (earlier y) (x ∷ xs) ≡ sum_by (earlier y) (y ∷ ys) → before x y ≡ false
not_before_first x y xs ys h e =
    let rest = none_earlier y ys h in
    let here : earlier y y ≡ 0 = ap (λ b. cond b 1 0) (not_itself y) in
    let left = sum_by-cons (earlier y) x xs in
    let right = sum_by-cons (earlier y) y ys in
    let none : earlier y x ≡ 0 = omega (arith, rest, here, left, right, e) in
    flag (before x y) (earlier y x) refl none

unique : (xs ys : List (List ℕ)) → Ordered xs → Ordered ys → ((f : List ℕ → ℕ) → sum_by f xs ≡ sum_by f ys) → xs ≡ ys
unique [] [] o p same = refl
unique [] (y ∷ ys) o p same = let e = same (λ _. 1) in let all = sum_by-cons {X = List ℕ} (λ _. 1) y ys in absurd (omega (arith, e, all))
unique (x ∷ xs) [] o p same = let e = same (λ _. 1) in let all = sum_by-cons {X = List ℕ} (λ _. 1) x xs in absurd (omega (arith, e, all))
unique (x ∷ xs) (y ∷ ys) o p same =
    let first : x ≡ y = same_name x y (not_before_first x y xs ys p.0 (same (earlier y))) (not_before_first y x ys xs o.0 (sym (same (earlier x)))) in
    let others : (f : List ℕ → ℕ) → sum_by f xs ≡ sum_by f ys = λ f. let e = same f in let h = ap f first in let left = sum_by-cons f x xs in let right = sum_by-cons f y ys in omega (arith, e, h, left, right) in
    λ i. first i ∷ unique xs ys o.1 p.1 others i

-- what std's sort gives

none_from : (n : List ℕ) (ms : List (List ℕ)) → ((k : ℕ) (d : List ℕ) → k < length ms → before (get_or ms k d) n ≡ false) → NoneBefore n ms
none_from n [] f = tt
none_from n (m ∷ ms) f = (f 0 m (omega arith), none_from n ms (λ k d h. f (suc k) d (omega (arith, h))))

ordered_from : (ns : List (List ℕ)) → ((i j : ℕ) (d : List ℕ) → i ≤ j → j < length ns → before (get_or ns j d) (get_or ns i d) ≡ false) → Ordered ns
ordered_from [] f = tt
ordered_from (n ∷ ns) f =
    (none_from n ns (λ k d h. f 0 (suc k) d (omega arith) (omega (arith, h))), ordered_from ns (λ i j d h k. f (suc i) (suc j) d (omega (arith, h)) (omega (arith, k))))

pub sorted_is : (xs ys : List (List ℕ)) → IsPermutation xs ys → IsSorted (slice_cmp nat_cmp) ys → ys ≡ in_order xs
sorted_is xs ys p s =
    unique ys (in_order xs) (ordered_from ys (sorted_far before weak ys s)) (ordered_all xs) (λ f. sum_by-IsPermutation f xs ys p ∙ sym (count_all f xs))

-- what a folder lists

pub listing_some : (o : Option (List (List ℕ))) (ns : List (List ℕ)) → o ≡ Some ns → in_order ns ≡ listing o
unfolding listing
listing_some o ns e = ap (λ p. in_order (unwrap_or p [])) (sym e)

pub listing_none : (o : Option (List (List ℕ))) → o ≡ None → [] ≡ listing o
unfolding listing
listing_none o e = ap (λ p. in_order (unwrap_or p [])) (sym e)
