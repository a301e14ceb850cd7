-- The earliest query, from the last to the first.
use Rattle.std.proofs.Common.{◌≡◌, ℕ, zero, suc, ◌+◌, ◌<◌, Bool, true, false, cond, ltb, eqb, ◌&&◌, ◌||◌, List, [], ◌∷◌, map, length, drop, get_or, Option, Some, None, add-one, refl, ap, sym, ◌∙◌, IfSome, subst, arith}
use Rattle.std.specs.List.{slice_get}
use Rattle.std.specs.Ordering.{nat_cmp}
use Rattle.std.specs.Cmp.Lexicographic.{slice_cmp}
use Rattle.std.proofs.lemmas.Bool.Decides.{nat_tests}
use Rattle.std.proofs.lemmas.List.{length-map}
use Rattle.dc_machine.specs.Kept.{AllOf}
use Rattle.dc_machine.specs.Machine.{Active, Holder, of_query, earlier, earlier_by, earliest}
use Rattle.dc_active.specs.Places.{IsLeast, IsEarliestOf}
use Rattle.dc_active.specs.View.{entry_of, queries_of, IsFit}
use Rattle.dc_active.specs.declared.entry.Entry.{Entry}
use Rattle.dc_active.proofs.ListLemmas.{get_below, get_read, all_read}

-- The order of two holders, where deadlines and then numbers are compared.
second_by : (s t : ℕ) (h k : Holder) (p q : Bool) → ltb s t ≡ p → eqb s t ≡ q → earlier_by (slice_cmp nat_cmp (s ∷ []) (t ∷ [])) h k ≡ cond (ltb t s) k h
second_by s t h k true q e f = let g : ltb t s ≡ false = grind (arith, nat_tests) in rw (e, g) refl
second_by s t h k false true e f = let g : ltb t s ≡ false = grind (arith, nat_tests) in rw (e, f, g) refl
second_by s t h k false false e f = let g : ltb t s ≡ true = grind (arith, nat_tests) in rw (e, f, g) refl

first_by : (d e s t : ℕ) (h k : Holder) (p q : Bool) → ltb d e ≡ p → eqb d e ≡ q →
    earlier_by (slice_cmp nat_cmp (d ∷ 0 ∷ s ∷ []) (e ∷ 0 ∷ t ∷ [])) h k ≡ cond (ltb e d || (eqb e d && ltb t s)) k h
first_by d e s t h k true q a b = let u : ltb e d ≡ false = grind (arith, nat_tests) in let v : eqb e d ≡ false = grind (arith, nat_tests) in rw (a, u, v) refl
first_by d e s t h k false true a b = let u : ltb e d ≡ false = grind (arith, nat_tests) in let v : eqb e d ≡ true = grind (arith, nat_tests) in rw (a, b, u, v) (second_by s t h k (ltb s t) (eqb s t) refl refl)
first_by d e s t h k false false a b = let u : ltb e d ≡ true = grind (arith, nat_tests) in rw (a, b, u) refl

-- The earlier of two queries.
pub earlier_is : (a b : Active) → earlier (of_query a) (Some (of_query b)) ≡ cond (ltb b.attempt.deadline a.attempt.deadline || (eqb b.attempt.deadline a.attempt.deadline && ltb b.serial a.serial)) (of_query b) (of_query a)
earlier_is a b = first_by a.attempt.deadline b.attempt.deadline a.serial b.serial (of_query a) (of_query b) _ _ refl refl

-- What stands at a place begins the list from there on.
pub drop_get : {A : Type 0} (xs : List A) (i : ℕ) (a : A) → slice_get xs i ≡ Some a → drop i xs ≡ a ∷ drop (suc i) xs
drop_get [] i a h = cc
drop_get (x ∷ xs) zero a h = let same : x ≡ a = cc in ap (λ z. z ∷ xs) same
drop_get (x ∷ xs) (suc i) a h = drop_get xs i a h

least_from : (rest : List Active) (a : Active) (o : Option Holder) → earliest (map of_query rest) ≡ o → earliest (map of_query (a ∷ rest)) ≡ Some (earlier (of_query a) o)
unfolding earliest
least_from rest a o h = ap (λ p. Some (earlier (of_query a) p)) h

got : {A : Type 0} (xs : List A) (i : ℕ) → i < length xs → (a : A) × (slice_get xs i ≡ Some a)
got [] i l = absurd (omega (arith, l))
got (x ∷ xs) zero l = (x, refl)
got (x ∷ xs) (suc i) l = got xs i (omega (arith, l))

-- The last query is the earliest of itself.
pub least_last : (qs : List Active) (i : ℕ) (a : Active) → slice_get qs i ≡ Some a → drop (suc i) qs ≡ [] → IsLeast (drop i qs) qs i
unfolding earliest
least_last qs i a h e = record {
  it = a;
  here = h;
  least = ap (λ xs. earliest (map of_query xs)) (drop_get qs i a h ∙ ap (λ xs. a ∷ xs) e);
}

least_by : (qs : List Active) (i : ℕ) (a b : Active) (v : Bool) → slice_get qs i ≡ Some a → earliest (map of_query (drop (suc i) qs)) ≡ Some (of_query b) →
    (ltb b.attempt.deadline a.attempt.deadline || (eqb b.attempt.deadline a.attempt.deadline && ltb b.serial a.serial)) ≡ v → earliest (map of_query (drop i qs)) ≡ Some (cond v (of_query b) (of_query a))
least_by qs i a b v h e f =
    ap (λ xs. earliest (map of_query xs)) (drop_get qs i a h)
    ∙ least_from (drop (suc i) qs) a (Some (of_query b)) e
    ∙ ap (λ x. Some x) (earlier_is a b ∙ ap (λ w. cond w (of_query b) (of_query a)) f)

-- Whether entry y is before entry x.
abbrev pub before : Entry → Entry → Bool
before y x = ltb y.deadline x.deadline || (eqb y.deadline x.deadline && ltb y.serial x.serial)

same_before : (x y : Entry) → IsFit x → IsFit y → (ltb (entry_of y).attempt.deadline (entry_of x).attempt.deadline || (eqb (entry_of y).attempt.deadline (entry_of x).attempt.deadline && ltb y.serial x.serial)) ≡ before y x
same_before x y f g = ap (λ n. ltb n (entry_of x).attempt.deadline || (eqb n (entry_of x).attempt.deadline && ltb y.serial x.serial)) g.deadline
    ∙ ap (λ n. ltb y.deadline n || (eqb y.deadline n && ltb y.serial x.serial)) f.deadline

same_it : (qs : List Active) (k : ℕ) (a b : Active) → slice_get qs k ≡ Some a → slice_get qs k ≡ Some b → a ≡ b
same_it qs k a b g h = cc

least_at : (es : List Entry) (i k : ℕ) (x y : Entry) (v : Bool) → AllOf IsFit es → i < length es → x ≡ get_or es i x → k < length es → y ≡ get_or es k y →
    IsLeast (drop (i + 1) (queries_of es)) (queries_of es) k → before y x ≡ v → earliest (map of_query (drop i (queries_of es))) ≡ Some (cond v (of_query (entry_of y)) (of_query (entry_of x)))
least_at es i k x y v fit li hx lk hy least e =
    let gx : slice_get (queries_of es) i ≡ Some (entry_of x) = get_read entry_of es i x li hx in
    let gy : slice_get (queries_of es) k ≡ Some (entry_of y) = get_read entry_of es k y lk hy in
    let same : least.it ≡ entry_of y = same_it (queries_of es) k least.it (entry_of y) least.here gy in
    let found : earliest (map of_query (drop (suc i) (queries_of es))) ≡ Some (of_query (entry_of y)) =
    ap (λ n. earliest (map of_query (drop n (queries_of es)))) (sym (add-one i)) ∙ least.least ∙ ap (λ a. Some (of_query a)) same in
    least_by (queries_of es) i (entry_of x) (entry_of y) v gx found (same_before x y (all_read IsFit es i x li hx fit) (all_read IsFit es k y lk hy fit) ∙ e)

-- The one behind is the earlier one.
pub least_behind : (es : List Entry) (i k : ℕ) (x y : Entry) → AllOf IsFit es → i < length es → x ≡ get_or es i x → k < length es → y ≡ get_or es k y →
    IsLeast (drop (i + 1) (queries_of es)) (queries_of es) k → before y x ≡ true → IsLeast (drop i (queries_of es)) (queries_of es) k
least_behind es i k x y fit li hx lk hy least e = record {
  it = entry_of y;
  here = get_read entry_of es k y lk hy;
  least = least_at es i k x y true fit li hx lk hy least e;
}

-- It isn't.
pub least_here : (es : List Entry) (i k : ℕ) (x y : Entry) → AllOf IsFit es → i < length es → x ≡ get_or es i x → k < length es → y ≡ get_or es k y →
    IsLeast (drop (i + 1) (queries_of es)) (queries_of es) k → before y x ≡ false → IsLeast (drop i (queries_of es)) (queries_of es) i
least_here es i k x y fit li hx lk hy least e = record {
  it = entry_of x;
  here = get_read entry_of es i x li hx;
  least = least_at es i k x y false fit li hx lk hy least e;
}

-- What it is to be the earliest where there is none behind, and where there is one.
pub none_of : (some all : List Active) (o : Option ℕ) → o ≡ None → IsEarliestOf some all o → some ≡ []
unfolding IsEarliestOf
none_of some all o e h = subst (λ p. IsEarliestOf some all p) e h

pub least_of : (some all : List Active) (o : Option ℕ) (k : ℕ) → o ≡ Some k → IsEarliestOf some all o → IsLeast some all k
unfolding IsEarliestOf
least_of some all o k e h = subst (λ p. IsEarliestOf some all p) e h

pub earliest_some : (some all : List Active) (k : ℕ) → IsLeast some all k → IsEarliestOf some all (Some k)
unfolding IsEarliestOf
earliest_some some all k h = h

pub earliest_none : (some all : List Active) → some ≡ [] → IsEarliestOf some all None
unfolding IsEarliestOf
earliest_none some all h = h

-- It stands within.
pub least_within : (some : List Active) (es : List Entry) (k : ℕ) → IsLeast some (queries_of es) k → k < length es
least_within some es k h = omega (arith, get_below (queries_of es) k h.it h.here, length-map es entry_of)

-- The last entry is the earliest of itself.
pub last_entry : (es : List Entry) (i : ℕ) → i < length es → drop (i + 1) (queries_of es) ≡ [] → IsLeast (drop i (queries_of es)) (queries_of es) i
last_entry es i l e =
    let there = got (queries_of es) i (omega (arith, l, length-map es entry_of)) in
    least_last (queries_of es) i there.0 there.1 (ap (λ n. drop n (queries_of es)) (sym (add-one i)) ∙ e)

-- From the end on there is none.
pub none_from : (es : List Entry) → drop (length es) (queries_of es) ≡ []
none_from [] = refl
none_from (e ∷ es) = none_from es

-- The place of the earliest stands within.
pub earliest_within : (some all : List Active) (o : Option ℕ) → IsEarliestOf some all o → IfSome o (λ i. i < length all)
unfolding IsEarliestOf
earliest_within some all None h = tt
earliest_within some all (Some i) h = get_below all i h.it h.here
