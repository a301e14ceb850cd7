-- The pairs of records, keys, and puts one after another.
use Rattle.std.proofs.Common.{◌≡◌, ℕ, ◌<◌, ◌^◌, List, [], ◌∷◌, ◌++◌, drop, refl, sym, ◌∙◌, ap, inl, inr, IsTrue, Option, unwrap_or}
use Rattle.std.specs.List.{AllByRecursion}
use Rattle.std.specs.List.Sorted.{IsStrictlySortedBy}
use Rattle.std.specs.Ordering.{ordering_reverse}
use Rattle.std.specs.declared.cmp.Ordering.{Ordering}
use Rattle.std.specs.declared.cmp.Ordering.TheVariants.{Less, Equal, Greater}
use Rattle.std.proofs.lemmas.Cmp.{nat_list_cmp_total}
use Rattle.std.proofs.lemmas.Grind.{flat_map-append}
use Rattle.dc_model.specs.Name.{Name, IsName, lower, wire, wire_length, same, NameRead, name_at}
use Rattle.dc_model.specs.Message.{Record}
use Rattle.dc_model.specs.Cache.{Cache, put}
use Rattle.dc_model.specs.Puts.{Put, Given, Pair, key_of, all_put, pair_of, pair_cmp, pair_by, with_pair, pairs_of, HasRecord, HasPair, lines_given, puts_given}
use Rattle.dc_model.proofs.NameLemmas.{name_at-wire}
use Rattle.dc_model.proofs.ReadLemmas.{u16_at-front, same-lower}
use Rattle.dc_model.proofs.DottedLemmas.{lower-IsName}

-- The order of pairs

abbrev keyed : Pair → List ℕ
keyed p = p.kind ∷ wire_length p.owner ∷ wire p.owner

less_trans : (p q r : Pair) → pair_cmp p q ≡ Less → pair_cmp q r ≡ Less → pair_cmp p r ≡ Less
less_trans p q r h k = nat_list_cmp_total.trans (keyed p) (keyed q) (keyed r) h k

greater_less : (p q : Pair) → pair_cmp p q ≡ Greater → pair_cmp q p ≡ Less
greater_less p q h = nat_list_cmp_total.antisymm (keyed q) (keyed p) ∙ ap ordering_reverse h

equal_refl : (p : Pair) → pair_cmp p p ≡ Equal
equal_refl p = own (pair_cmp p p) (nat_list_cmp_total.antisymm (keyed p) (keyed p)) where
  own : (o : Ordering) → o ≡ ordering_reverse o → o ≡ Equal
  own Less e = absurd (cc)
  own Equal e = refl
  own Greater e = absurd (cc)

below_all : (p q : Pair) (qs : List Pair) → pair_cmp p q ≡ Less → AllByRecursion (λ r. pair_cmp q r ≡ Less) qs → AllByRecursion (λ r. pair_cmp p r ≡ Less) qs
below_all p q [] h k = tt
below_all p q (r ∷ rs) h k = (less_trans p q r h k.0, below_all p q rs h k.1)

all_by : (P : Pair → Type 0) (o : Ordering) (p q : Pair) (qs further : List Pair) → P p → P q → AllByRecursion P qs → AllByRecursion P further → AllByRecursion P (pair_by o p q qs further)
all_by P Less p q qs further a b c d = (a, (b, c))
all_by P Equal p q qs further a b c d = (b, c)
all_by P Greater p q qs further a b c d = (b, d)

-- what holds of a pair and of these holds of all of them
all_with : (P : Pair → Type 0) (p : Pair) (qs : List Pair) → P p → AllByRecursion P qs → AllByRecursion P (with_pair p qs)
unfolding with_pair
all_with P p [] a b = (a, tt)
all_with P p (q ∷ qs) a b = all_by P (pair_cmp p q) p q qs (with_pair p qs) a b.0 b.1 (all_with P p qs a b.1)

sorted_by : (o : Ordering) (p q : Pair) (qs further : List Pair) → pair_cmp p q ≡ o → IsStrictlySortedBy pair_cmp (q ∷ qs) →
    (pair_cmp q p ≡ Less → AllByRecursion (λ r. pair_cmp q r ≡ Less) further × IsStrictlySortedBy pair_cmp further) → IsStrictlySortedBy pair_cmp (pair_by o p q qs further)
unfolding IsStrictlySortedBy
sorted_by Less p q qs further e s f = ((e, below_all p q qs e s.0), s)
sorted_by Equal p q qs further e s f = s
sorted_by Greater p q qs further e s f = f (greater_less p q e)

with_sorted : (p : Pair) (qs : List Pair) → IsStrictlySortedBy pair_cmp qs → IsStrictlySortedBy pair_cmp (with_pair p qs)
unfolding with_pair IsStrictlySortedBy
with_sorted p [] s = (tt, tt)
with_sorted p (q ∷ qs) s = sorted_by (pair_cmp p q) p q qs (with_pair p qs) refl s (λ l. (all_with (λ r. pair_cmp q r ≡ Less) p qs l s.0, with_sorted p qs s.1))

pub pairs_sorted : (rs : List Record) → IsStrictlySortedBy pair_cmp (pairs_of rs)
unfolding pairs_of IsStrictlySortedBy
pairs_sorted [] = tt
pairs_sorted (r ∷ rs) = with_sorted (pair_of r) (pairs_of rs) (pairs_sorted rs)

all_map : {X : Type 0} (P Q : X → Type 0) (xs : List X) → ((x : X) → P x → Q x) → AllByRecursion P xs → AllByRecursion Q xs
all_map P Q [] f h = tt
all_map P Q (x ∷ xs) f h = (f x h.0, all_map P Q xs f h.1)

pub pairs_from : (rs : List Record) → AllByRecursion (HasRecord rs) (pairs_of rs)
unfolding pairs_of
pairs_from [] = tt
pairs_from (r ∷ rs) = all_with (HasRecord (r ∷ rs)) (pair_of r) (pairs_of rs) (inl refl) (all_map (HasRecord rs) (HasRecord (r ∷ rs)) (pairs_of rs) (λ p h. inr h) (pairs_from rs))

-- A pair that is put among others is there.

there_by : (o : Ordering) (p q : Pair) (qs further : List Pair) → pair_cmp p q ≡ o → HasPair further p → HasPair (pair_by o p q qs further) p
there_by Less p q qs further e h = inl (equal_refl p)
there_by Equal p q qs further e h = inl e
there_by Greater p q qs further e h = inr h

pub pair_there : (p : Pair) (qs : List Pair) → HasPair (with_pair p qs) p
unfolding with_pair
pair_there p [] = inl (equal_refl p)
pair_there p (q ∷ qs) = there_by (pair_cmp p q) p q qs (with_pair p qs) refl (pair_there p qs)

-- And those that are there stay.

stay_by : (o : Ordering) (p q r : Pair) (qs further : List Pair) → HasPair (q ∷ qs) r → (HasPair qs r → HasPair further r) → HasPair (pair_by o p q qs further) r
stay_by Less p q r qs further h f = inr h
stay_by Equal p q r qs further h f = h
stay_by Greater p q r qs further (inl e) f = inl e
stay_by Greater p q r qs further (inr h) f = inr (f h)

pair_stays : (p r : Pair) (qs : List Pair) → HasPair qs r → HasPair (with_pair p qs) r
unfolding with_pair
pair_stays p r [] h = absurd h
pair_stays p r (q ∷ qs) h = stay_by (pair_cmp p q) p q r qs (with_pair p qs) h (pair_stays p r qs)

pub pairs_all : (rs : List Record) → AllByRecursion (λ r. HasPair (pairs_of rs) (pair_of r)) rs
unfolding pairs_of
pairs_all [] = tt
pairs_all (r ∷ rs) = (
  pair_there (pair_of r) (pairs_of rs),
  all_map (λ (s : Record). HasPair (pairs_of rs) (pair_of s)) (λ (s : Record). HasPair (with_pair (pair_of r) (pairs_of rs)) (pair_of s)) rs (λ s h. pair_stays (pair_of r) (pair_of s) (pairs_of rs) h) (pairs_all rs),
)

-- Keys

pub key_own : (kind other : ℕ) (owner name : Name) → kind < 2 ^ 16 → other < 2 ^ 16 → IsName owner → IsName name → key_of kind owner ≡ key_of other name → (kind ≡ other) × IsTrue (same owner name)
key_own kind other owner name h k m n e =
    let kinds : kind ≡ other = sym (u16_at-front 0 (key_of kind owner) kind (wire (lower owner)) h refl) ∙ u16_at-front 0 (key_of kind owner) other (wire (lower name)) k e in
    let wires : wire (lower owner) ≡ wire (lower name) = ap (λ l. drop 2 l) e in
    let a = name_at-wire (lower owner) [] [] (lower-IsName owner m) in
    let b = name_at-wire (lower name) [] [] (lower-IsName name n) in
    let none : NameRead = record { name = []; after = 0; pointers = 0 } in
    let names : lower owner ≡ lower name = ap (λ (o : Option NameRead). (unwrap_or o none).name) (sym a ∙ ap (λ (w : List ℕ). name_at ([] ++ (w ++ [])) 0) wires ∙ b) in
    (kinds, same-lower owner name (sym names))

-- Puts one after another

pub puts_on : (ps qs : List Put) (second : ℕ) (c : Cache) → all_put (ps ++ qs) second c ≡ all_put qs second (all_put ps second c)
unfolding all_put
puts_on [] qs second c = refl
puts_on (p ∷ ps) qs second c = puts_on ps qs second (put p.key p.body p.ttl second c)

pub lines_on : (gs hs : List Given) → lines_given (gs ++ hs) ≡ lines_given gs ++ lines_given hs
unfolding lines_given
lines_on gs hs = flat_map-append (λ (g : Given). g.lines) gs hs

pub puts_given_on : (gs hs : List Given) → puts_given (gs ++ hs) ≡ puts_given gs ++ puts_given hs
unfolding puts_given
puts_given_on gs hs = flat_map-append (λ (g : Given). g.puts) gs hs
