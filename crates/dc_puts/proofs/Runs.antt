-- What sorted records give, run by run.
use Rattle.std.proofs.Common.{◌≡◌, ℕ, Bool, true, false, cond, ◌==◌, List, [], ◌∷◌, ◌++◌, map, refl, sym, ◌∙◌, ap, arith, filter, subst}
use Rattle.std.specs.List.{AllByRecursion}
use Rattle.std.specs.List.Sorted.{IsPermutation}
use Rattle.std.specs.Ordering.{is_lt, ordering_reverse}
use Rattle.std.specs.declared.cmp.Ordering.{Ordering}
use Rattle.std.specs.declared.cmp.Ordering.TheVariants.{Less, Equal, Greater}
use Rattle.std.proofs.lemmas.List.{append-nil}
use Rattle.std.proofs.lemmas.List.Elements.{filter-append}
use Rattle.std.proofs.lemmas.List.Sorted.{IsPermutation-map}
use Rattle.std.proofs.lemmas.Bool.Decides.{nat_tests}
use Rattle.dc_model.specs.Name.{Name, IsName, lower, same}
use Rattle.dc_model.specs.Message.{Record, Message, in_records}
use Rattle.dc_model.specs.Rules.{Zones, in_zone}
use Rattle.dc_model.specs.Puts.{Pair, pair_of, pair_cmp, with_pair, pairs_of, group_of, Given, given_by, given_of}
use Rattle.dc_model.proofs.ReadLemmas.{same-lower}
use Rattle.dc_model.proofs.ZoneLemmas.{lower-lower}
use Rattle.dc_model.proofs.DottedLemmas.{lower-IsName}
use Rattle.dc_marks.specs.Places.{record_in}
use Rattle.dc_puts.specs.Order.{records_in, places_from, comes_before, given_from}
use Rattle.dc_puts.proofs.Ascending.{Up, all_weaker, all_kept}
use Rattle.dc_puts.proofs.Sorting.{is_of, is_of-means, before_pair, grouped, records_kept}
use Rattle.dc_puts.proofs.Pairs.{IsNamed, pair_equal, equal_itself, flipped, alike, less_on, pairs_every, AreOwned, pairs_moved}

-- the records are all of the pair
abbrev pub AreOf : Pair → List Record → Type 0
AreOf p rs = AllByRecursion (λ r. pair_of r ≡ p) rs

-- the pair comes before those of the records
abbrev pub AreBehind : Pair → List Record → Type 0
AreBehind p rs = AllByRecursion (λ r. pair_cmp p (pair_of r) ≡ Less) rs

-- the owner of the pair is in lower case
abbrev pub IsLow : Pair → Type 0
IsLow p = lower p.owner ≡ p.owner

with_least : (p : Pair) (qs : List Pair) → AllByRecursion (λ q. pair_cmp p q ≡ Less) qs → with_pair p qs ≡ p ∷ qs
unfolding with_pair
with_least p [] h = refl
with_least p (q ∷ qs) h = let e : pair_cmp p q ≡ Less = h.0 in rw e refl

with_first : (p : Pair) (qs : List Pair) → with_pair p (p ∷ qs) ≡ p ∷ qs
unfolding with_pair
with_first p qs = rw (equal_itself p) refl

pairs_run : (p : Pair) (r : Record) (run rest : List Record) → AreOf p (r ∷ run) → AreBehind p rest → pairs_of ((r ∷ run) ++ rest) ≡ p ∷ pairs_of rest
unfolding pairs_of
pairs_run p r [] rest h b = ap (λ q. with_pair q (pairs_of rest)) h.0 ∙ with_least p (pairs_of rest) (pairs_every (λ q. pair_cmp p q ≡ Less) rest b)
pairs_run p r (s ∷ run) rest h b = ap (λ q. with_pair q (pairs_of ((s ∷ run) ++ rest))) h.0 ∙ ap (with_pair p) (pairs_run p s run rest h.1 b) ∙ with_first p (pairs_of rest)

is_of-own : (r : Record) → is_of (pair_of r) r ≡ true
is_of-own r =
    let k : (r.kind == r.kind) ≡ true = grind (arith, nat_tests) in
    let s : same r.owner (lower r.owner) ≡ true = same-lower r.owner (lower r.owner) (lower-lower r.owner) in
    rw (k, s) refl

of_own : (p : Pair) (r : Record) → pair_of r ≡ p → is_of p r ≡ true
of_own p r e = subst (λ q. is_of q r ≡ true) e (is_of-own r)

own_of : (p : Pair) (r : Record) → IsLow p → is_of p r ≡ true → pair_of r ≡ p
own_of p r l h =
    let m = is_of-means p r h in
    ap (λ (k : ℕ). record { kind = k; owner = lower r.owner }) m.0 ∙ ap (λ (n : Name). record { kind = p.kind; owner = n }) (m.1 ∙ l)

not_true : (b : Bool) → (b ≡ true → ⊥) → b ≡ false
not_true true f = absurd (f refl)
not_true false f = refl

not_of : (p q : Pair) (r : Record) → IsLow q → pair_of r ≡ p → pair_cmp p q ≡ Less → is_of q r ≡ false
not_of p q r l e h =
    not_true (is_of q r) (λ t.
    let s : p ≡ q = sym e ∙ own_of q r l t in
    let x : pair_cmp p q ≡ Equal = subst (λ c. pair_cmp p c ≡ Equal) s (equal_itself p) in
    absurd (cc))

not_behind : (p : Pair) (r : Record) → IsLow p → pair_cmp p (pair_of r) ≡ Less → is_of p r ≡ false
not_behind p r l h =
    not_true (is_of p r) (λ t.
    let x : pair_cmp p (pair_of r) ≡ Equal = subst (λ c. pair_cmp p c ≡ Equal) (sym (own_of p r l t)) (equal_itself p) in
    absurd (cc))

filter_all : (q : Record → Bool) (rs : List Record) → AllByRecursion (λ r. q r ≡ true) rs → filter q rs ≡ rs
filter_all q [] h = refl
filter_all q (r ∷ rs) h = let e : q r ≡ true = h.0 in rw e (ap (λ xs. r ∷ xs) (filter_all q rs h.1))

filter_no : (q : Record → Bool) (rs : List Record) → AllByRecursion (λ r. q r ≡ false) rs → filter q rs ≡ []
filter_no q [] h = refl
filter_no q (r ∷ rs) h = let e : q r ≡ false = h.0 in rw e (filter_no q rs h.1)

group_run : (p : Pair) (run rest : List Record) → IsLow p → AreOf p run → AreBehind p rest → group_of (run ++ rest) p ≡ run
unfolding group_of
group_run p run rest l h b =
    filter-append (is_of p) run rest
    ∙ ap (λ xs. xs ++ filter (is_of p) rest) (filter_all (is_of p) run (all_weaker (λ r. pair_of r ≡ p) (λ r. is_of p r ≡ true) (λ r e. of_own p r e) run h))
    ∙ ap (λ xs. run ++ xs) (filter_no (is_of p) rest (all_weaker (λ r. pair_cmp p (pair_of r) ≡ Less) (λ r. is_of p r ≡ false) (λ r e. not_behind p r l e) rest b))
    ∙ append-nil run

group_rest : (p q : Pair) (run rest : List Record) → IsLow q → pair_cmp p q ≡ Less → AreOf p run → group_of (run ++ rest) q ≡ group_of rest q
unfolding group_of
group_rest p q run rest l h o =
    filter-append (is_of q) run rest
    ∙ ap (λ xs. xs ++ filter (is_of q) rest) (filter_no (is_of q) run (all_weaker (λ r. pair_of r ≡ p) (λ r. is_of q r ≡ false) (λ r e. not_of p q r l e h) run o))

map_agree : {X Y : Type 0} (f g : X → Y) (xs : List X) → AllByRecursion (λ x. f x ≡ g x) xs → map f xs ≡ map g xs
map_agree f g [] h = refl
map_agree f g (x ∷ xs) h = ap (λ y. y ∷ map f xs) h.0 ∙ ap (λ ys. g x ∷ ys) (map_agree f g xs h.1)

all_both : (P Q : Pair → Type 0) (ps : List Pair) → AllByRecursion P ps → AllByRecursion Q ps → AllByRecursion (λ p. P p × Q p) ps
all_both P Q [] h k = tt
all_both P Q (p ∷ ps) h k = ((h.0, k.0), all_both P Q ps h.1 k.1)

all_low : (rs : List Record) → AllByRecursion (λ r. IsLow (pair_of r)) rs
all_low [] = tt
all_low (r ∷ rs) = (lower-lower r.owner, all_low rs)

-- a run of a pair, and what stands behind it
pub given_run : (zones : Zones) (control : Name) (server : List ℕ) (p : Pair) (r : Record) (run rest : List Record) → AreOf p (r ∷ run) → AreBehind p rest →
    given_from zones control server ((r ∷ run) ++ rest) ≡ cond (in_zone zones control p.owner) (given_by zones.rule server p (r ∷ run) ∷ []) [] ++ given_from zones control server rest
unfolding given_from
given_run zones control server p r run rest h b =
    let all : List Record = (r ∷ run) ++ rest in
    let zone : Pair → Bool = λ q. in_zone zones control q.owner in
    let low : IsLow p = subst IsLow h.0 (lower-lower r.owner) in
    let give : List Record → Pair → Given = λ rs q. given_by zones.rule server q (group_of rs q) in
    let own : group_of all p ≡ r ∷ run = group_run p (r ∷ run) rest low h b in
    let same' : AllByRecursion (λ q. give all q ≡ give rest q) (filter zone (pairs_of rest)) =
    all_kept (λ q. IsLow q × (pair_cmp p q ≡ Less)) (λ q. give all q ≡ give rest q) zone (λ q t k. ap (given_by zones.rule server q) (group_rest p q (r ∷ run) rest k.0 k.1 h)) (pairs_of rest)
    (all_both IsLow (λ q. pair_cmp p q ≡ Less) (pairs_of rest) (pairs_every IsLow rest (all_low rest)) (pairs_every (λ q. pair_cmp p q ≡ Less) rest b)) in
    let more : map (give all) (filter zone (pairs_of rest)) ≡ map (give rest) (filter zone (pairs_of rest)) = map_agree (give all) (give rest) (filter zone (pairs_of rest)) same' in
    ap (λ ps. map (give all) (filter zone ps)) (pairs_run p r run rest h b)
    ∙ first (zone p) (give all) p (filter zone (pairs_of rest))
    ∙ ap (λ g. cond (zone p) (given_by zones.rule server p g ∷ []) [] ++ map (give all) (filter zone (pairs_of rest))) own
    ∙ ap (λ gs. cond (zone p) (given_by zones.rule server p (r ∷ run) ∷ []) [] ++ gs) more where
      first : (c : Bool) (f : Pair → Given) (p : Pair) (qs : List Pair) → map f (cond c (p ∷ qs) qs) ≡ cond c (f p ∷ []) [] ++ map f qs
      first true f p qs = refl
      first false f p qs = refl

pub given_none : (zones : Zones) (control : Name) (server : List ℕ) → given_from zones control server [] ≡ []
unfolding given_from pairs_of
given_none zones control server = refl

-- what a message gives is what its sorted records give
pub given_sorted : (zones : Zones) (control : Name) (server : List ℕ) (m : Message) (is : List ℕ) → IsPermutation (places_from 0 m.records) is → Up (comes_before m) is → AreOwned (in_records m) →
    given_of zones control server m ≡ given_from zones control server (records_in m is)
unfolding given_of given_from
given_sorted zones control server m is h u o =
    let rs : List Record = in_records m in
    let ss : List Record = records_in m is in
    let zone : Pair → Bool = λ q. in_zone zones control q.owner in
    let kept : IsPermutation rs ss = subst (λ xs. IsPermutation xs ss) (records_kept m) (IsPermutation-map (record_in m) (places_from 0 m.records) is h) in
    map_agree (λ q. given_by zones.rule server q (group_of rs q)) (λ q. given_by zones.rule server q (group_of ss q)) (filter zone (pairs_of rs)) (all_same (filter zone (pairs_of rs)))
    ∙ ap (λ ps. map (λ q. given_by zones.rule server q (group_of ss q)) (filter zone ps)) (sym (pairs_moved rs ss kept o)) where
      all_same : (qs : List Pair) → AllByRecursion (λ q. given_by zones.rule server q (group_of (in_records m) q) ≡ given_by zones.rule server q (group_of (records_in m is) q)) qs
      all_same [] = tt
      all_same (q ∷ qs) = (ap (given_by zones.rule server q) (sym (grouped m is h u q)), all_same qs)

-- Behind a run

less_when : (o : Ordering) → is_lt (ordering_reverse o) ≡ false → (o ≡ Equal → ⊥) → o ≡ Less
less_when Less h f = refl
less_when Equal h f = absurd (f refl)
less_when Greater h f = absurd (cc)

-- a record of another pair, which isn't before it, is behind it
pub behind_one : (p : Pair) (s : Record) → IsNamed p → IsName s.owner → is_lt (pair_cmp (pair_of s) p) ≡ false → (pair_of s ≡ p → ⊥) → pair_cmp p (pair_of s) ≡ Less
behind_one p s m n h f =
    less_when (pair_cmp p (pair_of s)) (subst (λ o. is_lt o ≡ false) (flipped (pair_of s) p) h)
    (λ e. f (sym (pair_equal p (pair_of s) m (lower-IsName s.owner n) e)))

pub behind_next : (p q r : Pair) → pair_cmp p q ≡ Less → is_lt (pair_cmp r q) ≡ false → pair_cmp p r ≡ Less
behind_next p q r h k = own (pair_cmp r q) refl k where
  own : (o : Ordering) → pair_cmp r q ≡ o → is_lt o ≡ false → pair_cmp p r ≡ Less
  own Less e l = absurd (cc)
  own Equal e l = alike r q p e h
  own Greater e l = less_on p q r h (flipped q r ∙ ap ordering_reverse e)

-- and so are those behind that record
pub behind_all : (p : Pair) (s : Record) (rs : List Record) → pair_cmp p (pair_of s) ≡ Less → AllByRecursion (λ r. before_pair r s ≡ false) rs → AreBehind p rs
behind_all p s [] h k = tt
behind_all p s (r ∷ rs) h k = (behind_next p (pair_of s) (pair_of r) h k.0, behind_all p s rs h k.1)
