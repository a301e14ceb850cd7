-- The pairs of records: the same ones, in whatever order the records stand.
use Rattle.std.proofs.Common.{◌≡◌, inl, inr, ℕ, List, [], ◌∷◌, ◌++◌, drop, refl, sym, ◌∙◌, ap, subst, Option, unwrap_or}
use Rattle.std.specs.Prelude.{slice_index}
use Rattle.std.specs.List.{AllByRecursion}
use Rattle.std.specs.List.Sorted.{IsPermutation, IsStrictlySortedBy}
use Rattle.std.specs.Ordering.{ordering_reverse}
use Rattle.std.specs.declared.cmp.Ordering.{Ordering}
use Rattle.std.specs.declared.cmp.Ordering.TheVariants.{Less, Equal, Greater}
use Rattle.std.proofs.lemmas.Cmp.{nat_list_cmp_total}
use Rattle.std.proofs.lemmas.List.Elements.{All-from_recursion, recursion_from_All}
use Rattle.std.proofs.lemmas.List.Sorted.{All-permutation, IsPermutation-sym}
use Rattle.dc_model.specs.Name.{Name, IsName, wire, wire_length, NameRead, name_at}
use Rattle.dc_model.specs.Message.{Record}
use Rattle.dc_model.specs.Puts.{Pair, pair_of, pair_cmp, pair_by, with_pair, pairs_of, HasPair}
use Rattle.dc_model.proofs.NameLemmas.{name_at-wire}
use Rattle.dc_model.proofs.DottedLemmas.{lower-IsName}
use Rattle.dc_model.proofs.PutLemmas.{pairs_sorted, pairs_all}
use Rattle.dc_puts.proofs.Ascending.{all_weaker}
use Rattle.dc_puts.proofs.Sorting.{cmp_equal}

-- the pair of a name
abbrev pub IsNamed : Pair → Type 0
IsNamed p = IsName p.owner

abbrev keyed : Pair → List ℕ
keyed p = p.kind ∷ wire_length p.owner ∷ wire p.owner

wire_same : (a b : Name) → IsName a → IsName b → wire a ≡ wire b → a ≡ b
wire_same a b m n e =
    let x = name_at-wire a [] [] m in
    let y = name_at-wire b [] [] n in
    let none : NameRead = record { name = []; after = 0; pointers = 0 } in
    ap (λ (o : Option NameRead). (unwrap_or o none).name) (sym x ∙ ap (λ (w : List ℕ). name_at ([] ++ (w ++ [])) 0) e ∙ y)

pub pair_equal : (p q : Pair) → IsNamed p → IsNamed q → pair_cmp p q ≡ Equal → p ≡ q
pair_equal p q m n h =
    let e : keyed p ≡ keyed q = cmp_equal (keyed p) (keyed q) h in
    let k : p.kind ≡ q.kind = ap (λ (l : List ℕ). slice_index l 0) e in
    let o : p.owner ≡ q.owner = wire_same p.owner q.owner m n (ap (λ (l : List ℕ). drop 2 l) e) in
    ap (λ (x : ℕ). record { kind = x; owner = p.owner }) k ∙ ap (λ (x : Name). record { kind = q.kind; owner = x }) o

pub equal_itself : (p : Pair) → pair_cmp p p ≡ Equal
equal_itself p = own (pair_cmp p p) (nat_list_cmp_total.antisymm (keyed p) (keyed p)) where
  own : (o : Ordering) → o ≡ ordering_reverse o → o ≡ Equal
  own Less e = absurd (cc)
  own Equal e = refl
  own Greater e = absurd (cc)

pub flipped : (p q : Pair) → pair_cmp p q ≡ ordering_reverse (pair_cmp q p)
flipped p q = nat_list_cmp_total.antisymm (keyed p) (keyed q)

pub less_on : (p q r : Pair) → pair_cmp p q ≡ Less → pair_cmp q r ≡ Less → pair_cmp p r ≡ Less
less_on p q r h k = nat_list_cmp_total.trans (keyed p) (keyed q) (keyed r) h k

-- an equal pair compares alike
pub alike : (p q r : Pair) → pair_cmp p q ≡ Equal → pair_cmp r q ≡ Less → pair_cmp r p ≡ Less
alike p q r h k =
    let c : pair_cmp p r ≡ pair_cmp q r = nat_list_cmp_total.congr (keyed p) (keyed q) (keyed r) h in
    flipped r p ∙ ap ordering_reverse (c ∙ flipped q r ∙ ap ordering_reverse k)

-- What holds of each record's pair holds of the pairs.

all_by : (P : Pair → Type 0) (o : Ordering) (p q : Pair) (qs further : List Pair) → P p → P q → AllByRecursion P qs → AllByRecursion P further → AllByRecursion P (pair_by o p q qs further)
all_by P Less p q qs further a b c d = (a, (b, c))
all_by P Equal p q qs further a b c d = (b, c)
all_by P Greater p q qs further a b c d = (b, d)

all_with : (P : Pair → Type 0) (p : Pair) (qs : List Pair) → P p → AllByRecursion P qs → AllByRecursion P (with_pair p qs)
unfolding with_pair
all_with P p [] a b = (a, tt)
all_with P p (q ∷ qs) a b = all_by P (pair_cmp p q) p q qs (with_pair p qs) a b.0 b.1 (all_with P p qs a b.1)

pub pairs_every : (P : Pair → Type 0) (rs : List Record) → AllByRecursion (λ r. P (pair_of r)) rs → AllByRecursion P (pairs_of rs)
unfolding pairs_of
pairs_every P [] h = tt
pairs_every P (r ∷ rs) h = all_with P (pair_of r) (pairs_of rs) h.0 (pairs_every P rs h.1)

-- Sorted lists with the same pairs are the same.

has_above : (b p : Pair) (qs : List Pair) → AllByRecursion (λ r. pair_cmp b r ≡ Less) qs → HasPair qs p → pair_cmp b p ≡ Less
has_above b p [] h k = absurd k
has_above b p (q ∷ qs) h (inl e) = alike p q b e h.0
has_above b p (q ∷ qs) h (inr k) = has_above b p qs h.1 k

heads : (a b : Pair) (as' bs : List Pair) → AllByRecursion (λ r. pair_cmp a r ≡ Less) as' → AllByRecursion (λ r. pair_cmp b r ≡ Less) bs → HasPair (b ∷ bs) a → HasPair (a ∷ as') b → pair_cmp a b ≡ Equal
heads a b as' bs sa sb (inl e) hb = e
heads a b as' bs sa sb (inr k) (inl e) = let x : pair_cmp b a ≡ Less = has_above b a bs sb k in absurd (cc)
heads a b as' bs sa sb (inr k) (inr l) =
    let x : pair_cmp b a ≡ Less = has_above b a bs sb k in
    let y : pair_cmp a b ≡ Less = has_above a b as' sa l in
    let z : pair_cmp a b ≡ Greater = flipped a b ∙ ap ordering_reverse x in
    absurd (cc)

tail_one : (a b p : Pair) (bs : List Pair) → a ≡ b → pair_cmp a p ≡ Less → HasPair (b ∷ bs) p → HasPair bs p
tail_one a b p bs e l (inl k) =
    let x : pair_cmp b p ≡ Less = subst (λ c. pair_cmp c p ≡ Less) e l in
    let y : pair_cmp b p ≡ Equal = flipped b p ∙ ap ordering_reverse k in
    absurd (cc)
tail_one a b p bs e l (inr k) = k

tails : (a b : Pair) (as' bs : List Pair) → a ≡ b → AllByRecursion (λ r. pair_cmp a r ≡ Less) as' → AllByRecursion (HasPair (b ∷ bs)) as' → AllByRecursion (HasPair bs) as'
tails a b [] bs e s h = tt
tails a b (p ∷ ps) bs e s h = (tail_one a b p bs e s.0 h.0, tails a b ps bs e s.1 h.1)

same_sorted : (as' bs : List Pair) → IsStrictlySortedBy pair_cmp as' → IsStrictlySortedBy pair_cmp bs → AllByRecursion (HasPair bs) as' → AllByRecursion (HasPair as') bs → AllByRecursion IsNamed as' → AllByRecursion IsNamed bs → as' ≡ bs
unfolding IsStrictlySortedBy
same_sorted [] [] sa sb ha hb na nb = refl
same_sorted [] (b ∷ bs) sa sb ha hb na nb = absurd hb.0
same_sorted (a ∷ as') [] sa sb ha hb na nb = absurd ha.0
same_sorted (a ∷ as') (b ∷ bs) sa sb ha hb na nb =
    let e : a ≡ b = pair_equal a b na.0 nb.0 (heads a b as' bs sa.0 sb.0 ha.0 hb.0) in
    ap (λ p. p ∷ as') e ∙ ap (λ ps. b ∷ ps) (same_sorted as' bs sa.1 sb.1 (tails a b as' bs e sa.0 ha.1) (tails b a bs as' (sym e) sb.0 hb.1) na.1 nb.1)

moved : (P : Record → Type 0) (rs ss : List Record) → IsPermutation rs ss → AllByRecursion P rs → AllByRecursion P ss
moved P rs ss h k = recursion_from_All P ss (All-permutation P rs ss h (All-from_recursion P rs k))

-- records whose owners are names
abbrev pub AreOwned : List Record → Type 0
AreOwned rs = AllByRecursion (λ r. IsName r.owner) rs

named : (rs : List Record) → AreOwned rs → AllByRecursion IsNamed (pairs_of rs)
named rs h = pairs_every IsNamed rs (all_weaker (λ (r : Record). IsName r.owner) (λ (r : Record). IsNamed (pair_of r)) (λ (r : Record) n. lower-IsName r.owner n) rs h)

-- the order of records doesn't count for their pairs
pub pairs_moved : (rs ss : List Record) → IsPermutation rs ss → AreOwned rs → pairs_of ss ≡ pairs_of rs
pairs_moved rs ss h o =
    same_sorted (pairs_of ss) (pairs_of rs) (pairs_sorted ss) (pairs_sorted rs)
    (pairs_every (HasPair (pairs_of rs)) ss (moved (λ r. HasPair (pairs_of rs) (pair_of r)) rs ss h (pairs_all rs)))
    (pairs_every (HasPair (pairs_of ss)) rs (moved (λ r. HasPair (pairs_of ss) (pair_of r)) ss rs (IsPermutation-sym rs ss h) (pairs_all ss)))
    (named ss (moved (λ r. IsName r.owner) rs ss h o)) (named rs o)
