-- The records of a message, sorted: those of a pair stand together, and as they stand in the message.
use Rattle.std.proofs.Common.{◌≡◌, ℕ, suc, ◌+◌, ◌<◌, ◌≤◌, Bool, true, false, cond, ◌&&◌, ◌==◌, List, [], ◌∷◌, ◌++◌, length, map, get_or, refl, sym, ◌∙◌, ap, arith, filter, subst}
use Rattle.std.specs.Prelude.{nat_lt}
use Rattle.std.specs.List.{AllByRecursion}
use Rattle.std.specs.List.Sorted.{IsPermutation, IsSortedBy}
use Rattle.std.specs.Cmp.{IsStrictWeakOrder}
use Rattle.std.specs.Cmp.Lexicographic.{slice_cmp}
use Rattle.std.specs.Ordering.{nat_cmp, is_lt, ordering_then}
use Rattle.std.specs.declared.cmp.Ordering.{Ordering}
use Rattle.std.specs.declared.cmp.Ordering.TheVariants.{Less, Equal, Greater}
use denote.Ref.{Bor}
use denote.Param.Members.{Mut}
use Rattle.std.specs.Fn.{ComparesAs, Called}
use Rattle.std.proofs.lemmas.Fn.{always_returns_same}
use Rattle.std.proofs.lemmas.Cmp.{nat_list_cmp_total}
use Rattle.std.proofs.lemmas.List.Sorted.{ranks_by, sorted_far}
use Rattle.std.proofs.lemmas.Bool.Decides.{nat_tests}
use Rattle.dc_model.specs.Name.{Name, lower, wire, wire_length, same}
use Rattle.dc_model.specs.Message.{Record, Message, is_in, in_records}
use Rattle.dc_model.specs.Puts.{Pair, pair_of, pair_cmp, group_of}
use Rattle.dc_model.proofs.ReadLemmas.{both, name_eq-same}
use Rattle.dc_marks.specs.Places.{no_record, record_in}
use Rattle.dc_puts.specs.Order.{owner_key, place_key, comes_before, places_from, records_in}
use Rattle.dc_puts.proofs.Ascending.{Ascends, same_lists, sum_moved, filter-map, Up, up_of, ascends_kept, ascends_filter}

-- Comparing

pub nat_itself : (n : ℕ) → nat_cmp n n ≡ Equal
nat_itself n =
    let a : nat_lt n n ≡ false = grind (arith, nat_tests) in
    let b : (n == n) ≡ true = grind (arith, nat_tests) in
    rw (a, b) refl

nat_le_from : (i j : ℕ) → is_lt (nat_cmp j i) ≡ false → i ≤ j
nat_le_from i j h = own (nat_lt j i) refl h where
  own : (b : Bool) → nat_lt j i ≡ b → is_lt (cond b Less (cond (j == i) Equal Greater)) ≡ false → i ≤ j
  own true e k = absurd (cc)
  own false e k = grind (arith, nat_tests)

cmp_front : (w xs ys : List ℕ) → slice_cmp nat_cmp (w ++ xs) (w ++ ys) ≡ slice_cmp nat_cmp xs ys
cmp_front [] xs ys = refl
cmp_front (a ∷ w) xs ys = rw (nat_itself a) (cmp_front w xs ys)

pub equal_then : (o : Ordering) → ordering_then o Equal ≡ o
equal_then Less = refl
equal_then Equal = refl
equal_then Greater = refl

-- a number behind bytes of one length
pub cmp_behind : (w v : List ℕ) (a b : ℕ) → length w ≡ length v → slice_cmp nat_cmp (w ++ a ∷ []) (v ++ b ∷ []) ≡ ordering_then (slice_cmp nat_cmp w v) (nat_cmp a b)
cmp_behind [] [] a b e = equal_then (nat_cmp a b)
cmp_behind [] (y ∷ v) a b e = absurd (omega arith)
cmp_behind (x ∷ w) [] a b e = absurd (omega arith)
cmp_behind (x ∷ w) (y ∷ v) a b e = own (nat_cmp x y) (cmp_behind w v a b (omega arith)) where
  own : (o : Ordering) → slice_cmp nat_cmp (w ++ a ∷ []) (v ++ b ∷ []) ≡ ordering_then (slice_cmp nat_cmp w v) (nat_cmp a b) → ordering_then o (slice_cmp nat_cmp (w ++ a ∷ []) (v ++ b ∷ [])) ≡ ordering_then (ordering_then o (slice_cmp nat_cmp w v)) (nat_cmp a b)
  own Less h = refl
  own Equal h = h
  own Greater h = refl

nat_equal : (x y : ℕ) → nat_cmp x y ≡ Equal → x ≡ y
nat_equal x y h = own (nat_lt x y) (x == y) refl h where
  own : (b c : Bool) → (x == y) ≡ c → cond b Less (cond c Equal Greater) ≡ Equal → x ≡ y
  own true c e k = absurd (cc)
  own false true e k = grind (arith, nat_tests)
  own false false e k = absurd (cc)

pub cmp_equal : (xs ys : List ℕ) → slice_cmp nat_cmp xs ys ≡ Equal → xs ≡ ys
cmp_equal [] [] h = refl
cmp_equal [] (y ∷ ys) h = absurd (cc)
cmp_equal (x ∷ xs) [] h = absurd (cc)
cmp_equal (x ∷ xs) (y ∷ ys) h = own (nat_cmp x y) refl (cmp_equal xs ys) h where
  own : (o : Ordering) → nat_cmp x y ≡ o → (slice_cmp nat_cmp xs ys ≡ Equal → xs ≡ ys) → ordering_then o (slice_cmp nat_cmp xs ys) ≡ Equal → (x ∷ xs) ≡ (y ∷ ys)
  own Less e f k = absurd (cc)
  own Equal e f k = ap (λ n. n ∷ xs) (nat_equal x y e) ∙ ap (λ zs. y ∷ zs) (f k)
  own Greater e f k = absurd (cc)

-- the order of owners' names with their numbers
pub owner_cmp : (w v : List ℕ) (a b : ℕ) → slice_cmp nat_cmp (length w ∷ (w ++ a ∷ [])) (length v ∷ (v ++ b ∷ [])) ≡ ordering_then (ordering_then (nat_cmp (length w) (length v)) (slice_cmp nat_cmp w v)) (nat_cmp a b)
owner_cmp w v a b = own (nat_cmp (length w) (length v)) refl where
  own : (o : Ordering) → nat_cmp (length w) (length v) ≡ o → ordering_then o (slice_cmp nat_cmp (w ++ a ∷ []) (v ++ b ∷ [])) ≡ ordering_then (ordering_then o (slice_cmp nat_cmp w v)) (nat_cmp a b)
  own Less e = refl
  own Equal e = cmp_behind w v a b (nat_equal (length w) (length v) e)
  own Greater e = refl

front_less : (w v : List ℕ) (a b : ℕ) → length w ≡ length v → is_lt (slice_cmp nat_cmp (w ++ a ∷ []) (v ++ b ∷ [])) ≡ false → is_lt (slice_cmp nat_cmp w v) ≡ false
front_less w v a b e h = own (slice_cmp nat_cmp w v) (subst (λ o. is_lt o ≡ false) (cmp_behind w v a b e) h) where
  own : (o : Ordering) → is_lt (ordering_then o (nat_cmp a b)) ≡ false → is_lt o ≡ false
  own Less k = k
  own Equal k = refl
  own Greater k = refl

pair_less : (k k' : ℕ) (w v : List ℕ) (a b : ℕ) → is_lt (slice_cmp nat_cmp (k ∷ length w ∷ (w ++ a ∷ [])) (k' ∷ length v ∷ (v ++ b ∷ []))) ≡ false → is_lt (slice_cmp nat_cmp (k ∷ length w ∷ w) (k' ∷ length v ∷ v)) ≡ false
pair_less k k' w v a b h = own (nat_cmp k k') (nat_cmp (length w) (length v)) refl h where
  own : (o q : Ordering) → nat_cmp (length w) (length v) ≡ q → is_lt (ordering_then o (ordering_then q (slice_cmp nat_cmp (w ++ a ∷ []) (v ++ b ∷ [])))) ≡ false → is_lt (ordering_then o (ordering_then q (slice_cmp nat_cmp w v))) ≡ false
  own Less q e x = x
  own Greater q e x = refl
  own Equal Less e x = x
  own Equal Greater e x = refl
  own Equal Equal e x = front_less w v a b (nat_equal (length w) (length v) e) x

-- The numbers of the records of class IN

pub places_more : (i : ℕ) (rs : List Record) (r : Record) → places_from i (rs ++ r ∷ []) ≡ places_from i rs ++ cond (is_in r) ((i + length rs) ∷ []) []
unfolding places_from
places_more i [] r = let e : i ≡ i + 0 = omega arith in ap (λ n. cond (is_in r) (n ∷ []) []) e
places_more i (x ∷ rs) r =
    let e : i + 1 + length rs ≡ i + length (x ∷ rs) = omega arith in
    own (is_in x) _ _ (places_more (i + 1) rs r ∙ ap (λ n. places_from (i + 1) rs ++ cond (is_in r) (n ∷ []) []) e) where
      own : (b : Bool) (ys zs : List ℕ) → ys ≡ zs ++ cond (is_in r) ((i + length (x ∷ rs)) ∷ []) [] → cond b (i ∷ ys) ys ≡ cond b (i ∷ zs) zs ++ cond (is_in r) ((i + length (x ∷ rs)) ∷ []) []
      own true ys zs h = ap (λ ns. i ∷ ns) h
      own false ys zs h = h

places_at : (g : ℕ → Record) (i : ℕ) (rs : List Record) → ((k : ℕ) → k < length rs → g (i + k) ≡ get_or rs k no_record) → map g (places_from i rs) ≡ filter is_in rs
unfolding places_from
places_at g i [] f = refl
places_at g i (r ∷ rs) f =
    let e : g i ≡ r = ap g (omega arith) ∙ f 0 (omega arith) in
    let more : map g (places_from (i + 1) rs) ≡ filter is_in rs = places_at g (i + 1) rs (λ k h. ap g (omega arith) ∙ f (suc k) (omega arith)) in
    own (is_in r) e more where
      own : (b : Bool) → g i ≡ r → map g (places_from (i + 1) rs) ≡ filter is_in rs → map g (cond b (i ∷ places_from (i + 1) rs) (places_from (i + 1) rs)) ≡ cond b (r ∷ filter is_in rs) (filter is_in rs)
      own true e m = ap (λ x. x ∷ map g (places_from (i + 1) rs)) e ∙ ap (λ xs. r ∷ xs) m
      own false e m = m

pub records_kept : (m : Message) → records_in m (places_from 0 m.records) ≡ in_records m
records_kept m = places_at (record_in m) 0 m.records (λ k h. ap (λ n. get_or m.records n no_record) (omega arith))

places_above : (i j : ℕ) (rs : List Record) → i ≤ j → AllByRecursion (λ y. i ≤ y) (places_from j rs)
unfolding places_from
places_above i j [] h = tt
places_above i j (r ∷ rs) h = own (is_in r) (places_above i (j + 1) rs (omega arith)) where
  own : (b : Bool) → AllByRecursion (λ y. i ≤ y) (places_from (j + 1) rs) → AllByRecursion (λ y. i ≤ y) (cond b (j ∷ places_from (j + 1) rs) (places_from (j + 1) rs))
  own true k = (h, k)
  own false k = k

pub places_ascend : (i : ℕ) (rs : List Record) → Ascends (places_from i rs)
unfolding places_from
places_ascend i [] = tt
places_ascend i (r ∷ rs) = own (is_in r) (places_above i (i + 1) rs (omega arith)) (places_ascend (i + 1) rs) where
  own : (b : Bool) → AllByRecursion (λ y. i ≤ y) (places_from (i + 1) rs) → Ascends (places_from (i + 1) rs) → Ascends (cond b (i ∷ places_from (i + 1) rs) (places_from (i + 1) rs))
  own true a k = (a, k)
  own false a k = k

-- The sorted numbers

pub order_is : (m : Message) → IsStrictWeakOrder (comes_before m)
order_is m = ranks_by nat_list_cmp_total (place_key m)

pub up_from : (m : Message) (xs : List ℕ) → IsSortedBy (comes_before m) xs → Up (comes_before m) xs
up_from m xs s = up_of (comes_before m) 0 xs (λ i j a b. sorted_far (comes_before m) (order_is m) xs s i j 0 (omega arith) b)

-- what a sort by calls of a closure leaves
pub sorted_by_calls : {F : Type 0} {g : Mut F (Bor ℕ × (Bor ℕ × Unit {0})) Ordering} {f : F} (m : Message) (xs : List ℕ)
    → ((lt : ℕ → ℕ → Bool) → IsStrictWeakOrder lt → ComparesAs g lt f → IsSortedBy lt xs)
    → ((a : Bor ℕ × (Bor ℕ × Unit {0})) (r : Ordering) (f' : F) → Called g f a r f' → (r ≡ slice_cmp nat_cmp (place_key m a.0.now) (place_key m a.1.0.now)) × (f' ≡ f)) → IsSortedBy (comes_before m) xs
sorted_by_calls {g = g} {f = f} m xs up h =
    up (comes_before m) (order_is m) (always_returns_same g (λ a r. is_lt r ≡ comes_before m a.0.now a.1.0.now) f (λ a r f' k. (ap is_lt (h a r f' k).0, (h a r f' k).1)))

-- whether a record is of a pair
abbrev pub is_of : Pair → Record → Bool
is_of p r = r.kind == p.kind && same r.owner p.owner

pub is_of-means : (p : Pair) (r : Record) → is_of p r ≡ true → (r.kind ≡ p.kind) × (lower r.owner ≡ lower p.owner)
is_of-means p r h =
    let b = both (r.kind == p.kind) (same r.owner p.owner) h in
    let k : (r.kind == p.kind) ≡ true = b.0 in
    (grind (arith, nat_tests), name_eq-same (lower r.owner) (lower p.owner) b.1)

key_is : (m : Message) (p : Pair) (i : ℕ) → is_of p (record_in m i) ≡ true → place_key m i ≡ p.kind ∷ owner_key (lower p.owner) i
unfolding place_key
key_is m p i h =
    let b = is_of-means p (record_in m i) h in
    ap (λ k. k ∷ owner_key (lower (record_in m i).owner) i) b.0 ∙ ap (λ (n : Name). p.kind ∷ owner_key n i) b.1

key_same : (k n : ℕ) (w : List ℕ) (i j : ℕ) → slice_cmp nat_cmp (k ∷ n ∷ (w ++ j ∷ [])) (k ∷ n ∷ (w ++ i ∷ [])) ≡ nat_cmp j i
key_same k n w i j = cmp_front (k ∷ n ∷ w) (j ∷ []) (i ∷ []) ∙ equal_then (nat_cmp j i)

in_turn : (m : Message) (p : Pair) (i j : ℕ) → is_of p (record_in m i) ≡ true → is_of p (record_in m j) ≡ true → comes_before m j i ≡ false → i ≤ j
in_turn m p i j a b h =
    let e : slice_cmp nat_cmp (place_key m j) (place_key m i) ≡ nat_cmp j i =
    ap (λ x. slice_cmp nat_cmp x (place_key m i)) (key_is m p j b) ∙ ap (slice_cmp nat_cmp (p.kind ∷ owner_key (lower p.owner) j)) (key_is m p i a)
    ∙ key_same p.kind (wire_length (lower p.owner)) (wire (lower p.owner)) i j in
    nat_le_from i j (sym (ap is_lt e) ∙ h)

-- the records of a pair stand as in the message
pub grouped : (m : Message) (is : List ℕ) → IsPermutation (places_from 0 m.records) is → Up (comes_before m) is → (p : Pair) → group_of (records_in m is) p ≡ group_of (in_records m) p
unfolding group_of
grouped m is h u p =
    let of : ℕ → Bool = λ i. is_of p (record_in m i) in
    let all : List ℕ = places_from 0 m.records in
    filter-map (is_of p) (record_in m) is
    ∙ ap (map (record_in m)) (same_lists (filter of is) (filter of all) (ascends_kept (comes_before m) of (λ i j a b c. in_turn m p i j a b c) is u) (ascends_filter of all (places_ascend 0 m.records)) (λ f. sum_moved f of all is h))
    ∙ sym (filter-map (is_of p) (record_in m) all)
    ∙ ap (filter (is_of p)) (records_kept m)

-- no record's pair comes before an earlier one's
abbrev pub before_pair : Record → Record → Bool
before_pair r s = is_lt (pair_cmp (pair_of r) (pair_of s))

record_less : (m : Message) (i j : ℕ) → comes_before m j i ≡ false → before_pair (record_in m j) (record_in m i) ≡ false
unfolding place_key
record_less m i j h =
    pair_less (record_in m j).kind (record_in m i).kind (wire (lower (record_in m j).owner)) (wire (lower (record_in m i).owner)) j i h

all_records : (m : Message) (i : ℕ) (is : List ℕ) → AllByRecursion (λ j. comes_before m j i ≡ false) is → AllByRecursion (λ r. before_pair r (record_in m i) ≡ false) (records_in m is)
all_records m i [] h = tt
all_records m i (j ∷ is) h = (record_less m i j h.0, all_records m i is h.1)

pub records_up : (m : Message) (is : List ℕ) → Up (comes_before m) is → Up before_pair (records_in m is)
records_up m [] h = tt
records_up m (i ∷ is) h = (all_records m i is h.0, records_up m is h.1)
