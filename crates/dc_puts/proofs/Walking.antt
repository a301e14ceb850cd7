-- A walk over sorted records, run by run.
use Rattle.std.proofs.Common.{◌≡◌, ℕ, zero, suc, ◌+◌, ◌<◌, ◌≤◌, List, [], ◌∷◌, ◌++◌, length, map, take, drop, refl, sym, ◌∙◌, ap, arith, subst, true, false, cond, Bool, filter, ◌==◌, ◌&&◌, get_or, Some}
use Rattle.std.specs.Prelude.{slice_index}
use Rattle.std.specs.List.{AllByRecursion}
use Rattle.std.specs.List.Sorted.{IsPermutation, IsSortedBy}
use Rattle.std.specs.Ordering.{is_lt}
use Rattle.std.specs.declared.cmp.Ordering.TheVariants.{Less}
use Rattle.std.proofs.lemmas.List.{take-append-drop, take_more, length-take-le}
use Rattle.dc_packet.specs.Rows.{message_in}
use Rattle.dc_marks.proofs.MarkLemmas.{message_in-is}
use Rattle.std.proofs.lemmas.Bool.Decides.{nat_tests}
use Rattle.std.proofs.lemmas.List.Elements.{All-from_recursion, recursion_from_All}
use Rattle.std.proofs.lemmas.List.Sorted.{All-permutation}
use Rattle.dc_model.specs.Name.{Name, IsName, lower, same}
use Rattle.dc_model.specs.Message.{Record, Message, HasNames, IsRecord, message_of, is_in}
use Rattle.dc_model.specs.Rules.{Zones}
use Rattle.dc_model.specs.Puts.{Pair, pair_of, pair_cmp, Given, given_of, lines_given, puts_given, all_put}
use Rattle.dc_model.specs.Event.{line}
use Rattle.dc_model.specs.Cache.{Cache}
use Rattle.dc_model.proofs.ZoneLemmas.{lower-lower}
use Rattle.dc_model.proofs.ReadLemmas.{both, name_eq-same, same-lower}
use Rattle.dc_model.proofs.PutLemmas.{puts_on, lines_on, puts_given_on}
use Rattle.dc_model.proofs.DottedLemmas.{lower-IsName}
use Rattle.dc_model.proofs.MessageLemmas.{message_of-IsMessage}
use Rattle.dc_marks.specs.Places.{no_record, record_in}
use Rattle.dc_puts.specs.Order.{records_in, places_from, given_from, comes_before}
use Rattle.dc_puts.specs.Told.{AreSound, given_in, told}
use Rattle.dc_puts.specs.Sorted.{AreRun, AreUp, AreSorted}
use Rattle.dc_puts.specs.Group.{first_pair}
use Rattle.dc_puts.proofs.Ascending.{Up, all_weaker, all_kept}
use Rattle.dc_puts.proofs.Sorting.{before_pair, up_from, records_up}
use Rattle.dc_puts.proofs.Pairs.{IsNamed, AreOwned}
use Rattle.dc_puts.proofs.Runs.{AreOf, AreBehind, given_run, behind_one, behind_all, given_sorted}
use Rattle.dc_puts.proofs.Telling.{map-append, sound_drop}

all_behind : {X : Type 0} (P : X → Type 0) (xs ys : List X) → AllByRecursion P (xs ++ ys) → AllByRecursion P ys
all_behind P [] ys h = h
all_behind P (x ∷ xs) ys h = all_behind P xs ys h.1

up_behind : {X : Type 0} (lt : X → X → Bool) (xs ys : List X) → Up lt (xs ++ ys) → Up lt ys
up_behind lt [] ys h = h
up_behind lt (x ∷ xs) ys h = up_behind lt xs ys h.1

-- the first of these records isn't of the pair
NotFirst : Pair → List Record → Type 0
NotFirst p [] = Unit {0}
NotFirst p (s ∷ ss) = pair_of s ≡ p → ⊥

behind_run : (p : Pair) (r : Record) (run rest : List Record) → AreOwned ((r ∷ run) ++ rest) → Up before_pair ((r ∷ run) ++ rest) → pair_of r ≡ p → NotFirst p rest → AreBehind p rest
unfolding NotFirst
behind_run p r run [] o u e f = tt
behind_run p r run (s ∷ ss) o u e f =
    let os = all_behind (λ (x : Record). IsName x.owner) (r ∷ run) (s ∷ ss) o in
    let us = up_behind before_pair (r ∷ run) (s ∷ ss) u in
    let b = all_behind (λ x. before_pair x r ≡ false) run (s ∷ ss) u.0 in
    let n : IsNamed p = subst IsNamed e (lower-IsName r.owner o.0) in
    let one : pair_cmp p (pair_of s) ≡ Less = behind_one p s n os.0 (subst (λ q. is_lt (pair_cmp (pair_of s) q) ≡ false) e b.0) f in
    (one, behind_all p s ss one us.0)

first_next : (m : Message) (p : Pair) (k : ℕ) (is : List ℕ) → (k < length is → pair_of (record_in m (slice_index is k)) ≡ p → ⊥) → NotFirst p (records_in m (drop k is))
unfolding NotFirst
first_next m p zero [] f = tt
first_next m p (suc k) [] f = tt
first_next m p zero (i ∷ is) f = f (omega arith)
first_next m p (suc k) (i ∷ is) f = first_next m p k is (λ h. f (omega arith))

-- what stands behind a run keeps its order
pub step_given : (zones : Zones) (control : Name) (server : List ℕ) (m : Message) (rest : List ℕ) (n : ℕ) → 1 ≤ n → n ≤ length rest → AreOwned (records_in m rest) → Up before_pair (records_in m rest) → AreOf (first_pair m rest) (records_in m (take n rest))
    → (n < length rest → pair_of (record_in m (slice_index rest n)) ≡ first_pair m rest → ⊥)
    → given_from zones control server (records_in m rest) ≡ given_in zones control server (first_pair m rest) (records_in m (take n rest)) ++ given_from zones control server (records_in m (drop n rest))
unfolding given_in
step_given zones control server m [] n a b o u r f = absurd (omega arith)
step_given zones control server m (i ∷ is) zero a b o u r f = absurd (omega arith)
step_given zones control server m (i ∷ is) (suc k) a b o u r f =
    let e : records_in m (i ∷ is) ≡ records_in m (i ∷ take k is) ++ records_in m (drop k is) =
    ap (λ xs. record_in m i ∷ records_in m xs) (sym (take-append-drop k is)) ∙ ap (λ xs. record_in m i ∷ xs) (map-append (record_in m) (take k is) (drop k is)) in
    let next : NotFirst (first_pair m (i ∷ is)) (records_in m (drop k is)) = first_next m (first_pair m (i ∷ is)) k is (λ h. f (omega arith)) in
    let b' : AreBehind (first_pair m (i ∷ is)) (records_in m (drop k is)) =
    behind_run (first_pair m (i ∷ is)) (record_in m i) (records_in m (take k is)) (records_in m (drop k is)) (subst AreOwned e o) (subst (Up before_pair) e u) refl next in
    ap (given_from zones control server) e ∙ given_run zones control server (first_pair m (i ∷ is)) (record_in m i) (records_in m (take k is)) (records_in m (drop k is)) r b'

pub owned_drop : (m : Message) (n : ℕ) (is : List ℕ) → AreOwned (records_in m is) → AreOwned (records_in m (drop n is))
owned_drop m zero is h = h
owned_drop m (suc n) [] h = h
owned_drop m (suc n) (i ∷ is) h = owned_drop m n is h.1

pub up_drop : (m : Message) (n : ℕ) (is : List ℕ) → Up before_pair (records_in m is) → Up before_pair (records_in m (drop n is))
up_drop m zero is h = h
up_drop m (suc n) [] h = h
up_drop m (suc n) (i ∷ is) h = up_drop m n is h.1

pub sound_take : (m : Message) (n : ℕ) (is : List ℕ) → AreSound m is → AreSound m (take n is)
sound_take m zero is h = tt
sound_take m (suc n) [] h = h
sound_take m (suc n) (i ∷ is) h = (h.0, sound_take m n is h.1)

-- The length of a run

pub run_one : (m : Message) (rest : List ℕ) → 0 < length rest → AreOf (first_pair m rest) (records_in m (take 1 rest))
run_one m [] h = absurd (omega arith)
run_one m (i ∷ is) h = (refl, tt)

all_more : (P : Record → Type 0) (rs : List Record) (r : Record) → AllByRecursion P rs → P r → AllByRecursion P (rs ++ r ∷ [])
all_more P [] r h k = (k, tt)
all_more P (x ∷ rs) r h k = (h.0, all_more P rs r h.1 k)

pub run_more : (m : Message) (rest : List ℕ) (n : ℕ) → n < length rest → AreOf (first_pair m rest) (records_in m (take n rest)) → pair_of (record_in m (slice_index rest n)) ≡ first_pair m rest → AreOf (first_pair m rest) (records_in m (take (n + 1) rest))
run_more m rest n h a e =
    subst (AreOf (first_pair m rest)) (sym (ap (records_in m) (take_more rest n 0 h) ∙ map-append (record_in m) (take n rest) (slice_index rest n ∷ [])))
    (all_more (λ r. pair_of r ≡ first_pair m rest) (records_in m (take n rest)) (record_in m (slice_index rest n)) a e)

pub low_is : (n x : Name) → n ≡ lower x → lower n ≡ n
low_is n x e = ap lower e ∙ lower-lower x ∙ sym e

pub pair_is : (r : Record) (k : ℕ) (n : Name) → k ≡ r.kind → n ≡ lower r.owner → record { kind = k; owner = n } ≡ pair_of r
pair_is r k n e f = ap (λ (x : ℕ). record { kind = x; owner = n }) e ∙ ap (λ (x : Name). record { kind = r.kind; owner = x }) f

pub test_yes : (r : Record) (k kind : ℕ) (n owner : Name) (b : Bool) → k ≡ r.kind → n ≡ lower r.owner → lower owner ≡ owner → b ≡ ((k == kind) && same n owner) → b ≡ true → pair_of r ≡ record { kind = kind; owner = owner }
test_yes r k kind n owner b e f l h t =
    let s = both (k == kind) (same n owner) (sym h ∙ t) in
    let q : (k == kind) ≡ true = s.0 in
    let w : k ≡ kind = grind (arith, nat_tests) in
    sym (pair_is r k n e f) ∙ ap (λ (x : ℕ). record { kind = x; owner = n }) w ∙ ap (λ (x : Name). record { kind = kind; owner = x }) (sym (low_is n r.owner f) ∙ name_eq-same (lower n) (lower owner) s.1 ∙ l)

pub test_no : (r : Record) (k kind : ℕ) (n owner : Name) (b : Bool) → k ≡ r.kind → n ≡ lower r.owner → lower owner ≡ owner → b ≡ ((k == kind) && same n owner) → b ≡ false → pair_of r ≡ record { kind = kind; owner = owner } → ⊥
test_no r k kind n owner b e f l h t g =
    let w : k ≡ kind = e ∙ ap (λ (x : Pair). x.kind) g in
    let q : (k == kind) ≡ true = grind (arith, nat_tests) in
    let o : n ≡ owner = f ∙ ap (λ (x : Pair). x.owner) g in
    let s : same n owner ≡ true = same-lower n owner (ap lower (sym o)) in
    let z : ((k == kind) && same n owner) ≡ true = rw (q, s) refl in
    let y : b ≡ true = h ∙ z in
    absurd (cc)

up_are : (rs : List Record) → Up before_pair rs → AreUp rs
up_are [] h = tt
up_are (r ∷ rs) h = (h.0, up_are rs h.1)

pub are_up : (rs : List Record) → AreUp rs → Up before_pair rs
are_up [] h = tt
are_up (r ∷ rs) h = (h.0, are_up rs h.1)

pub sorted_drop : (m : Message) (n : ℕ) (is : List ℕ) → AreSorted m is → AreSorted m (drop n is)
sorted_drop m n is h = record {
  sound = sound_drop m n is h.sound;
  owned = owned_drop m n is h.owned;
  up = up_are (records_in m (drop n is)) (up_drop m n is (are_up (records_in m is) h.up));
}

pub step_told : (zones : Zones) (control : Name) (server : List ℕ) (m : Message) (rest : List ℕ) (n : ℕ) → 1 ≤ n → n ≤ length rest → AreSorted m rest → AreRun m rest n
    → given_from zones control server (records_in m rest) ≡ given_in zones control server (first_pair m rest) (records_in m (take n rest)) ++ given_from zones control server (records_in m (drop n rest))
step_told zones control server m rest n a b s r = step_given zones control server m rest n a b s.owned (are_up (records_in m rest) s.up) r.own r.next

pub told_on : (gs hs : List Given) → told (gs ++ hs) ≡ told gs ++ told hs
unfolding told
told_on gs hs = ap (map line) (lines_on gs hs) ∙ map-append line (lines_given gs) (lines_given hs)

pub told_none : told [] ≡ []
unfolding told lines_given
told_none = refl

pub puts_none : (second : ℕ) (c : Cache) → all_put (puts_given []) second c ≡ c
unfolding all_put puts_given
puts_none second c = refl

pub put_on : (gs hs : List Given) (second : ℕ) (c : Cache) → all_put (puts_given (gs ++ hs)) second c ≡ all_put (puts_given hs) second (all_put (puts_given gs) second c)
put_on gs hs second c = ap (λ ps. all_put ps second c) (puts_given_on gs hs) ∙ puts_on (puts_given gs) (puts_given hs) second c

-- Everything that a packet's message has is sound.

fact_at : (P : Record → Type 0) (rs : List Record) (i : ℕ) → i < length rs → AllByRecursion P rs → P (get_or rs i no_record)
fact_at P [] i h a = absurd (omega arith)
fact_at P (r ∷ rs) zero h a = a.0
fact_at P (r ∷ rs) (suc i) h a = fact_at P rs i (omega arith) a.1

places_in : (P : ℕ → Type 0) (i n : ℕ) (rs : List Record) → i + length rs ≡ n → ((k : ℕ) → k < n → P k) → AllByRecursion P (places_from i rs)
unfolding places_from
places_in P i n [] e f = tt
places_in P i n (r ∷ rs) e f = own (is_in r) (f i (omega arith)) (places_in P (i + 1) n rs (omega arith) f) where
  own : (b : Bool) → P i → AllByRecursion P (places_from (i + 1) rs) → AllByRecursion P (cond b (i ∷ places_from (i + 1) rs) (places_from (i + 1) rs))
  own true p h = (p, h)
  own false p h = h

pub moved : {X : Type 0} (P : X → Type 0) (xs ys : List X) → IsPermutation xs ys → AllByRecursion P xs → AllByRecursion P ys
moved P xs ys h k = recursion_from_All P ys (All-permutation P xs ys h (All-from_recursion P xs k))

all_records : (P : Record → Type 0) (m : Message) (is : List ℕ) → AllByRecursion (λ i. P (record_in m i)) is → AllByRecursion P (records_in m is)
all_records P m [] h = tt
all_records P m (i ∷ is) h = (h.0, all_records P m is h.1)

pub sorted_of : (p : List ℕ) (m : Message) (is : List ℕ) → message_of p ≡ Some m → IsPermutation (places_from 0 m.records) is → IsSortedBy (comes_before m) is → AreSorted m is
sorted_of p m is e h s =
    let all = (message_of-IsMessage p m e).records in
    record {
      sound = moved (λ i. (i < length m.records) × HasNames (record_in m i).body) (places_from 0 m.records) is h
          (places_in (λ i. (i < length m.records) × HasNames (record_in m i).body) 0 (length m.records) m.records (omega arith) (λ k l. (l, (fact_at (IsRecord p) m.records k l all).names)));
      owned = all_records (λ r. IsName r.owner) m is (moved (λ i. IsName (record_in m i).owner) (places_from 0 m.records) is h
          (places_in (λ i. IsName (record_in m i).owner) 0 (length m.records) m.records (omega arith) (λ k l. (fact_at (IsRecord p) m.records k l all).owner)));
      up = up_are (records_in m is) (records_up m is (up_from m is s));
    }

owned_kept : (rs : List Record) → AllByRecursion (λ r. IsName r.owner) rs → AreOwned (filter is_in rs)
owned_kept rs h = all_kept (λ r. IsName r.owner) (λ r. IsName r.owner) is_in (λ r t n. n) rs h

pub given_is : (p : List ℕ) (m : Message) (is : List ℕ) (zones : Zones) (control : Name) (server : List ℕ) → message_of p ≡ Some m → IsPermutation (places_from 0 m.records) is → IsSortedBy (comes_before m) is → given_from zones control server (records_in m is) ≡ given_of zones control server m
given_is p m is zones control server e h s =
    sym (given_sorted zones control server m is h (up_from m is s) (owned_kept m.records (all_weaker (IsRecord p) (λ r. IsName r.owner) (λ r k. k.owner) m.records (message_of-IsMessage p m e).records)))

first_take : (m : Message) (n : ℕ) (rest : List ℕ) → 1 ≤ n → first_pair m (take n rest) ≡ first_pair m rest
first_take m zero rest h = absurd (omega arith)
first_take m (suc n) [] h = refl
first_take m (suc n) (i ∷ is) h = refl

pub step_run : (zones : Zones) (control : Name) (server : List ℕ) (m : Message) (rest run more : List ℕ) (n : ℕ) → run ≡ take n rest → more ≡ drop n rest → 1 ≤ n → n ≤ length rest → AreSorted m rest → AreRun m rest n
    → given_from zones control server (records_in m rest) ≡ given_in zones control server (first_pair m run) (records_in m run) ++ given_from zones control server (records_in m more)
step_run zones control server m rest run more n d e a b s r =
    step_told zones control server m rest n a b s r
    ∙ ap (λ p. given_in zones control server p (records_in m (take n rest)) ++ given_from zones control server (records_in m (drop n rest))) (sym (first_take m n rest a))
    ∙ ap (λ is. given_in zones control server (first_pair m is) (records_in m is) ++ given_from zones control server (records_in m (drop n rest))) (sym d)
    ∙ ap (λ is. given_in zones control server (first_pair m run) (records_in m run) ++ given_from zones control server (records_in m is)) (sym e)

pub run_some : (rest run : List ℕ) (n : ℕ) → run ≡ take n rest → 1 ≤ n → n ≤ length rest → 0 < length run
run_some rest run n d a b = omega (arith, ap length d, length-take-le n rest b)

pub sound_run : (m : Message) (rest run : List ℕ) (n : ℕ) → run ≡ take n rest → AreSorted m rest → AreSound m run
sound_run m rest run n d s = subst (AreSound m) (sym d) (sound_take m n rest s.sound)

pub puts_told : (p : List ℕ) (m : Message) (is : List ℕ) (zones : Zones) (control : Name) (server : List ℕ) → message_of p ≡ Some m → IsPermutation (places_from 0 m.records) is → IsSortedBy (comes_before m) is
    → told (given_from zones control server (records_in m is)) ≡ map line (lines_given (given_of zones control server (message_in p)))
unfolding told
puts_told p m is zones control server e h s =
    ap (λ gs. map line (lines_given gs)) (given_is p m is zones control server e h s ∙ ap (given_of zones control server) (message_in-is p m e))

pub puts_put : (p : List ℕ) (m : Message) (is : List ℕ) (zones : Zones) (control : Name) (server : List ℕ) (second : ℕ) (c : Cache) → message_of p ≡ Some m → IsPermutation (places_from 0 m.records) is → IsSortedBy (comes_before m) is
    → all_put (puts_given (given_from zones control server (records_in m is))) second c ≡ all_put (puts_given (given_of zones control server (message_in p))) second c
puts_put p m is zones control server second c e h s =
    ap (λ gs. all_put (puts_given gs) second c) (given_is p m is zones control server e h s ∙ ap (given_of zones control server) (message_in-is p m e))
