-- What is due first, and what a tick makes of it.
use Rattle.std.proofs.Common.{◌≡◌, ◌<◌, ◌≤◌, ◌+◌, ℕ, zero, suc, Bool, true, false, cond, not, ltb, eqb, ◌&&◌, ◌||◌, List, [], ◌∷◌, ◌++◌, length, map, take, drop, Option, Some, None, option_map, refl, sym, ap, subst, ◌∙◌, IfSome, arith}
use Rattle.std.specs.Prelude.{find, filter, nat_le, if◌then◌else◌}
use Rattle.std.specs.List.{list_any, slice_get, remove}
use Rattle.std.specs.Option.{MatchOption, IsSomeAnd, is_some}
use Rattle.std.specs.Ordering.{nat_cmp}
use Rattle.std.specs.Cmp.Lexicographic.{slice_cmp}
use Rattle.std.proofs.lemmas.Bool.Decides.{nat_tests}
use Rattle.std.proofs.lemmas.List.{map-append, take_all}
use Rattle.std.proofs.lemmas.List.Elements.{filter-append}
use Rattle.dc_active.specs.Places.{IsLeast, IsEarliestOf}
use Rattle.dc_active.proofs.SoonestLemmas.{sooner, earliest_both}
use Rattle.dc_active.proofs.TakeLemmas.{none_earliest}
use Rattle.dc_active.proofs.PickLemmas.{pick_serial}
use Rattle.dc_active.proofs.EarliestLemmas.{least_of}
use Rattle.dc_model.specs.Transmission.{is_whole, after_event}
use Rattle.dc_model.specs.Cache.{Cache}
use Rattle.dc_model.specs.Event.{Action}
use Rattle.dc_model.specs.Line.{close_timeout}
use Rattle.dc_machine.specs.Kept.{IsRising}
use Rattle.dc_machine.specs.Machine.{Machine, Active, Connection, Holder, of_query, of_connection, earlier, earlier_by, earliest, is_on, is_idle, is_ready, first_ready, holders, deadline_of, wake, wake_by, Input, given_to, progressed_by, occasion_of, closed_with, asked, did, due_step, due_by, tick_by}
use Rattle.dc_connections.specs.Places.{connection_at}
use Rattle.dc_connections.proofs.PlaceLemmas.{found_by}
use Rattle.dc_clients.specs.Due.{is_sooner, IsFirstIdle, IsFirstDue, Stands}
use Rattle.dc_clients.specs.View.{machine_of, Took}
use Rattle.dc_clients.proofs.TookLemmas.{took_as}
use Rattle.dc_clients.specs.declared.clients.Clients.{Clients}
use Rattle.dc_clients.specs.declared.clock.Due.{Due}
use Rattle.dc_clients.specs.declared.clock.Due.TheVariants as due

-- Whether a connection is idle

whole_by : (b v w : Bool) → v ≡ w → v ≡ true → not v ≡ (not b && not w)
whole_by true v w e h = ap not h
whole_by false v w e h = ap not e

-- One with a whole request isn't.
pub idle_whole : (m : Machine) (c : Connection) (v : Bool) → v ≡ is_whole c.gathered → v ≡ true → not v ≡ is_idle m c
unfolding is_idle
idle_whole m c v e h = whole_by (list_any (λ (a : Active). is_on c.number a.client) m.queries) v (is_whole c.gathered) e h

part_by : (w b v u : Bool) → w ≡ b → v ≡ u → v ≡ false → not w ≡ (not b && not u)
part_by w true v u f e h = ap not f
part_by w false v u f e h = ap not f ∙ ap not (sym h ∙ e)

-- Another is where no query is at work for it.
pub idle_part : (m : Machine) (c : Connection) (n : ℕ) (v w : Bool) → v ≡ is_whole c.gathered → v ≡ false → n ≡ c.number
    → w ≡ list_any (λ (a : Active). is_on n a.client) m.queries → not w ≡ is_idle m c
unfolding is_idle
idle_part m c n v w e h k f =
    part_by w (list_any (λ (a : Active). is_on c.number a.client) m.queries) v (is_whole c.gathered)
    (f ∙ ap (λ i. list_any (λ (a : Active). is_on i a.client) m.queries) k) e h

-- The first that is ready

-- It was found.
pub ready_found : (m : Machine) (i : ℕ) → i < length m.connections → is_ready m (connection_at m.connections i) ≡ true
    → find (is_ready m) m.connections ≡ find (is_ready m) (drop i m.connections) → Some (connection_at m.connections i) ≡ first_ready m
unfolding first_ready
ready_found m i h e k = found_by (is_ready m) m.connections i h e k

none_from : {A : Type 0} (xs : List A) (i : ℕ) → length xs ≤ i → drop i xs ≡ []
none_from [] zero h = refl
none_from [] (suc i) h = refl
none_from (x ∷ xs) zero h = absurd (omega (arith, h))
none_from (x ∷ xs) (suc i) h = none_from xs i (omega (arith, h))

-- All were looked at, and none was found.
pub ready_none : (m : Machine) (i : ℕ) → length m.connections ≤ i
    → find (is_ready m) m.connections ≡ find (is_ready m) (drop i m.connections) → None ≡ first_ready m
unfolding first_ready
ready_none m i h k = sym (k ∙ ap (find (is_ready m)) (none_from m.connections i h))

-- The earlier of two

second_by : (s t : ℕ) (h k : Holder) (p q : Bool) → ltb s t ≡ p → eqb s t ≡ q → earlier_by (slice_cmp nat_cmp (s ∷ []) (t ∷ [])) h k ≡ cond (ltb t s) k h
second_by s t h k true q e f = let g : ltb t s ≡ false = grind (arith, nat_tests) in rw (e, g) refl
second_by s t h k false true e f = let g : ltb t s ≡ false = grind (arith, nat_tests) in rw (e, f, g) refl
second_by s t h k false false e f = let g : ltb t s ≡ true = grind (arith, nat_tests) in rw (e, f, g) refl

first_by : (d e s t : ℕ) (h k : Holder) (p q : Bool) → ltb d e ≡ p → eqb d e ≡ q →
    earlier_by (slice_cmp nat_cmp (d ∷ 1 ∷ s ∷ []) (e ∷ 1 ∷ t ∷ [])) h k ≡ cond (ltb e d || (eqb e d && ltb t s)) k h
first_by d e s t h k true q a b = let u : ltb e d ≡ false = grind (arith, nat_tests) in let v : eqb e d ≡ false = grind (arith, nat_tests) in rw (a, u, v) refl
first_by d e s t h k false true a b = let u : ltb e d ≡ false = grind (arith, nat_tests) in let v : eqb e d ≡ true = grind (arith, nat_tests) in rw (a, b, u, v) (second_by s t h k (ltb s t) (eqb s t) refl refl)
first_by d e s t h k false false a b = let u : ltb e d ≡ true = grind (arith, nat_tests) in rw (a, b, u) refl

-- The second of two connections comes first only where it is due before the first.
pub earlier_connection : (c d : Connection) → earlier (of_connection c) (Some (of_connection d)) ≡ cond (is_sooner d c) (of_connection d) (of_connection c)
earlier_connection c d = first_by c.deadline d.deadline c.number d.number (of_connection c) (of_connection d) _ _ refl refl

mixed_by : (d e s t : ℕ) (h k : Holder) (p q : Bool) → ltb d e ≡ p → eqb d e ≡ q →
    earlier_by (slice_cmp nat_cmp (d ∷ 0 ∷ s ∷ []) (e ∷ 1 ∷ t ∷ [])) h k ≡ cond (ltb e d) k h
mixed_by d e s t h k true q a b = let u : ltb e d ≡ false = grind (arith, nat_tests) in rw (a, u) refl
mixed_by d e s t h k false true a b = let u : ltb e d ≡ false = grind (arith, nat_tests) in rw (a, b, u) refl
mixed_by d e s t h k false false a b = let u : ltb e d ≡ true = grind (arith, nat_tests) in rw (a, b, u) refl

-- A connection comes before a query only where its deadline is less.
pub earlier_mixed : (a : Active) (c : Connection) → earlier (of_query a) (Some (of_connection c)) ≡ cond (ltb c.deadline a.attempt.deadline) (of_connection c) (of_query a)
earlier_mixed a c = mixed_by a.attempt.deadline c.deadline a.serial c.number (of_query a) (of_connection c) _ _ refl refl

-- The first of the idle ones

-- The first of these that is due stands at this place of all, or none of them is idle.
unfoldable pub IsFirstAmong : Machine → List Connection → Option ℕ → Type 0
IsFirstAmong m some None = earliest (map of_connection (filter (is_idle m) some)) ≡ None
IsFirstAmong m some (Some i) = earliest (map of_connection (filter (is_idle m) some)) ≡ Some (of_connection (connection_at m.connections i))

-- None was looked at.
pub among_none : (m : Machine) → IsFirstAmong m [] None
unfolding IsFirstAmong earliest
among_none m = refl

take_more : (cs : List Connection) (i : ℕ) → i < length cs → take (i + 1) cs ≡ take i cs ++ connection_at cs i ∷ []
unfolding connection_at
take_more [] i h = absurd (omega (arith, h))
take_more (c ∷ cs) zero h = refl
take_more (c ∷ cs) (suc i) h = let e : suc i + 1 ≡ suc (i + 1) = omega arith in rw e (ap (λ ds. c ∷ ds) (take_more cs i (omega (arith, h))))

-- The idle ones of these.
abbrev idle_of : Machine → List Connection → List Holder
idle_of m some = map of_connection (filter (is_idle m) some)

idle_both : (m : Machine) (cs ds : List Connection) → idle_of m (cs ++ ds) ≡ idle_of m cs ++ idle_of m ds
idle_both m cs ds = ap (map of_connection) (filter-append (is_idle m) cs ds) ∙ map-append of_connection (filter (is_idle m) cs) (filter (is_idle m) ds)

idle_one : (m : Machine) (c : Connection) (v : Bool) → is_idle m c ≡ v → idle_of m (c ∷ []) ≡ cond v (of_connection c ∷ []) []
idle_one m c true e = rw e refl
idle_one m c false e = rw e refl

-- The first of one more.
more : (m : Machine) (i : ℕ) (v : Bool) → i < length m.connections → is_idle m (connection_at m.connections i) ≡ v
    → earliest (idle_of m (take (i + 1) m.connections)) ≡ sooner (earliest (idle_of m (take i m.connections))) (earliest (cond v (of_connection (connection_at m.connections i) ∷ []) []))
more m i v h e =
    ap (λ cs. earliest (idle_of m cs)) (take_more m.connections i h)
    ∙ ap earliest (idle_both m (take i m.connections) (connection_at m.connections i ∷ []))
    ∙ ap (λ hs. earliest (idle_of m (take i m.connections) ++ hs)) (idle_one m (connection_at m.connections i) v e)
    ∙ earliest_both (idle_of m (take i m.connections)) (cond v (of_connection (connection_at m.connections i) ∷ []) [])

nothing_more : (o : Option Holder) → sooner o None ≡ o
nothing_more None = refl
nothing_more (Some h) = refl

-- One more that isn't idle changes nothing.
pub among_passed : (m : Machine) (i : ℕ) (first : Option ℕ) → i < length m.connections → is_idle m (connection_at m.connections i) ≡ false
    → IsFirstAmong m (take i m.connections) first → IsFirstAmong m (take (i + 1) m.connections) first
unfolding IsFirstAmong earliest
among_passed m i None h e k = more m i false h e ∙ nothing_more (earliest (idle_of m (take i m.connections))) ∙ k
among_passed m i (Some n) h e k = more m i false h e ∙ nothing_more (earliest (idle_of m (take i m.connections))) ∙ k

-- The first idle one.
pub among_one : (m : Machine) (i : ℕ) → i < length m.connections → is_idle m (connection_at m.connections i) ≡ true
    → IsFirstAmong m (take i m.connections) None → IsFirstAmong m (take (i + 1) m.connections) (Some i)
unfolding IsFirstAmong earliest
among_one m i h e k = more m i true h e ∙ ap (λ o. sooner o (Some (of_connection (connection_at m.connections i)))) k

-- One more comes behind the first.
pub among_kept : (m : Machine) (i n : ℕ) → i < length m.connections → is_idle m (connection_at m.connections i) ≡ true
    → is_sooner (connection_at m.connections i) (connection_at m.connections n) ≡ false
    → IsFirstAmong m (take i m.connections) (Some n) → IsFirstAmong m (take (i + 1) m.connections) (Some n)
unfolding IsFirstAmong earliest
among_kept m i n h e f k =
    let c : Connection = connection_at m.connections i in
    let d : Connection = connection_at m.connections n in
    more m i true h e
    ∙ ap (λ o. sooner o (Some (of_connection c))) k
    ∙ ap (λ x. Some x) (earlier_connection d c ∙ ap (λ v. cond v (of_connection c) (of_connection d)) f)

-- Or it comes before it.
pub among_sooner : (m : Machine) (i n : ℕ) → i < length m.connections → is_idle m (connection_at m.connections i) ≡ true
    → is_sooner (connection_at m.connections i) (connection_at m.connections n) ≡ true
    → IsFirstAmong m (take i m.connections) (Some n) → IsFirstAmong m (take (i + 1) m.connections) (Some i)
unfolding IsFirstAmong earliest
among_sooner m i n h e f k =
    let c : Connection = connection_at m.connections i in
    let d : Connection = connection_at m.connections n in
    more m i true h e
    ∙ ap (λ o. sooner o (Some (of_connection c))) k
    ∙ ap (λ x. Some x) (earlier_connection d c ∙ ap (λ v. cond v (of_connection c) (of_connection d)) f)

-- All were looked at.
pub among_all : (m : Machine) (i : ℕ) (first : Option ℕ) → length m.connections ≤ i → IsFirstAmong m (take i m.connections) first → IsFirstIdle m first
unfolding IsFirstAmong
among_all m i None h k = ap (λ cs. earliest (idle_of m cs)) (sym (take_all i m.connections h)) ∙ k
among_all m i (Some n) h k = ap (λ cs. earliest (idle_of m cs)) (sym (take_all i m.connections h)) ∙ k

-- What is known behind the first i connections.
pub record IsFirstSoFar (m : Machine) (i : ℕ) (first : Option ℕ) : Type 0 where
  pub place : IfSome first (λ n. n < length m.connections)
  pub found : IsFirstAmong m (take i m.connections) first

pub so_far_none : (m : Machine) → IsFirstSoFar m 0 None
so_far_none m = record { place = tt; found = among_none m }

pub so_far_passed : (m : Machine) (i : ℕ) (first next : Option ℕ) → next ≡ first → i < length m.connections → is_idle m (connection_at m.connections i) ≡ false
    → IsFirstSoFar m i first → IsFirstSoFar m (i + 1) next
so_far_passed m i first next e h f k = subst (λ o. IsFirstSoFar m (i + 1) o) (sym e) (record { place = k.place; found = among_passed m i first h f k.found })

pub so_far_one : (m : Machine) (i : ℕ) (first next : Option ℕ) → first ≡ None → next ≡ Some i → i < length m.connections → is_idle m (connection_at m.connections i) ≡ true
    → IsFirstSoFar m i first → IsFirstSoFar m (i + 1) next
so_far_one m i first next n e h f k =
    let found : IsFirstAmong m (take i m.connections) None = subst (λ o. IsFirstAmong m (take i m.connections) o) n k.found in
    subst (λ o. IsFirstSoFar m (i + 1) o) (sym e) (record { place = h; found = among_one m i h f found })

pub so_far_kept : (m : Machine) (i n : ℕ) (first next : Option ℕ) → first ≡ Some n → next ≡ Some n → i < length m.connections → is_idle m (connection_at m.connections i) ≡ true
    → is_sooner (connection_at m.connections i) (connection_at m.connections n) ≡ false → IsFirstSoFar m i first → IsFirstSoFar m (i + 1) next
so_far_kept m i n first next o e h f s k =
    let old : IsFirstSoFar m i (Some n) = subst (λ p. IsFirstSoFar m i p) o k in
    subst (λ p. IsFirstSoFar m (i + 1) p) (sym e) (record { place = old.place; found = among_kept m i n h f s old.found })

pub so_far_sooner : (m : Machine) (i n : ℕ) (first next : Option ℕ) → first ≡ Some n → next ≡ Some i → i < length m.connections → is_idle m (connection_at m.connections i) ≡ true
    → is_sooner (connection_at m.connections i) (connection_at m.connections n) ≡ true → IsFirstSoFar m i first → IsFirstSoFar m (i + 1) next
so_far_sooner m i n first next o e h f s k =
    let old : IsFirstSoFar m i (Some n) = subst (λ p. IsFirstSoFar m i p) o k in
    subst (λ p. IsFirstSoFar m (i + 1) p) (sym e) (record { place = h; found = among_sooner m i n h f s old.found })

-- The first of all

first_is : (m : Machine) (q c : Option Holder) → earliest (map of_query m.queries) ≡ q → earliest (idle_of m m.connections) ≡ c → earliest (holders m) ≡ sooner q c
unfolding holders
first_is m q c e f =
    earliest_both (map of_query m.queries) (idle_of m m.connections)
    ∙ ap (λ o. sooner o (earliest (idle_of m m.connections))) e ∙ ap (λ o. sooner q o) f

due_alone : (m : Machine) (o : Option ℕ) → earliest (map of_query m.queries) ≡ None → IsFirstIdle m o → IfSome o (λ n. n < length m.connections) → IsFirstDue m (option_map due.Connection o)
due_alone m None e f h = first_is m None None e f
due_alone m (Some n) e f h = (of_connection (connection_at m.connections n), first_is m None (Some (of_connection (connection_at m.connections n))) e f, (h, refl))

mapped : (o : Option ℕ) (d : Option Due) → MatchOption o (d ≡ None) (λ n. IsSomeAnd d (λ e. e ≡ due.Connection n)) → d ≡ option_map due.Connection o
mapped None d h = h
mapped (Some n) None h = absurd h
mapped (Some n) (Some e) h = ap (λ x. Some x) h

-- With no query it is the first connection.
pub due_connection : (m : Machine) (q o : Option ℕ) (d : Option Due) → IsEarliestOf m.queries m.queries q → q ≡ None → IsFirstIdle m o → IfSome o (λ n. n < length m.connections)
    → MatchOption o (d ≡ None) (λ n. IsSomeAnd d (λ e. e ≡ due.Connection n)) → IsFirstDue m d
due_connection m q o d h e f k r = subst (λ x. IsFirstDue m x) (sym (mapped o d r)) (due_alone m o (none_earliest m.queries q h e) f k)

query_due : (m : Machine) (i : ℕ) (l : IsLeast m.queries m.queries i) (c : Option Holder) → earliest (idle_of m m.connections) ≡ c → sooner (Some (of_query l.it)) c ≡ Some (of_query l.it) → IsFirstDue m (Some (due.Query i))
query_due m i l c e f = (of_query l.it, first_is m (Some (of_query l.it)) c l.least e ∙ f, (l.it, l.here, refl))

-- With no connection it is the first query.
pub due_query : (m : Machine) (q o : Option ℕ) (i : ℕ) → IsEarliestOf m.queries m.queries q → q ≡ Some i → IsFirstIdle m o → o ≡ None → IsFirstDue m (Some (due.Query i))
due_query m q o i h e f k =
    let none : IsFirstIdle m None = subst (λ x. IsFirstIdle m x) k f in
    query_due m i (least_of m.queries m.queries q i e h) None none refl

its_deadline : (m : Machine) (i d : ℕ) (l : IsLeast m.queries m.queries i) → option_map (λ (a : Active). a.attempt.deadline) (slice_get m.queries i) ≡ Some d → l.it.attempt.deadline ≡ d
its_deadline m i d l h =
    let same : Some l.it.attempt.deadline ≡ Some d = ap (option_map (λ (a : Active). a.attempt.deadline)) (sym l.here) ∙ h in
    cc

not_less : (x y d e : ℕ) → x ≡ d → y ≡ e → d ≤ e → ltb y x ≡ false
not_less x y d e h k l = grind (arith, nat_tests)

-- The query's deadline isn't the greater.
pub due_query_first : (m : Machine) (q o : Option ℕ) (i n d e : ℕ) → IsEarliestOf m.queries m.queries q → q ≡ Some i → IsFirstIdle m o → o ≡ Some n
    → option_map (λ (a : Active). a.attempt.deadline) (slice_get m.queries i) ≡ Some d → e ≡ (connection_at m.connections n).deadline → d ≤ e → IsFirstDue m (Some (due.Query i))
due_query_first m q o i n d e h g f k u v w =
    let l : IsLeast m.queries m.queries i = least_of m.queries m.queries q i g h in
    let c : Connection = connection_at m.connections n in
    let some : IsFirstIdle m (Some n) = subst (λ x. IsFirstIdle m x) k f in
    query_due m i l (Some (of_connection c)) some
    (ap (λ x. Some x) (earlier_mixed l.it c ∙ ap (λ b. cond b (of_connection c) (of_query l.it)) (not_less l.it.attempt.deadline c.deadline d e (its_deadline m i d l u) (sym v) w)))

less : (x y d e : ℕ) → x ≡ d → y ≡ e → e < d → ltb y x ≡ true
less x y d e h k l = grind (arith, nat_tests)

-- It is the greater.
pub due_connection_first : (m : Machine) (q o : Option ℕ) (i n d e : ℕ) → IsEarliestOf m.queries m.queries q → q ≡ Some i → IsFirstIdle m o → o ≡ Some n → n < length m.connections
    → option_map (λ (a : Active). a.attempt.deadline) (slice_get m.queries i) ≡ Some d → e ≡ (connection_at m.connections n).deadline → e < d → IsFirstDue m (Some (due.Connection n))
due_connection_first m q o i n d e h g f k r u v w =
    let l : IsLeast m.queries m.queries i = least_of m.queries m.queries q i g h in
    let c : Connection = connection_at m.connections n in
    let some : IsFirstIdle m (Some n) = subst (λ x. IsFirstIdle m x) k f in (
      of_connection c,
      first_is m (Some (of_query l.it)) (Some (of_connection c)) l.least some
          ∙ ap (λ x. Some x) (earlier_mixed l.it c ∙ ap (λ b. cond b (of_connection c) (of_query l.it)) (less l.it.attempt.deadline c.deadline d e (its_deadline m i d l u) (sym v) w)),
      (r, refl),
    )

-- When a tick is wanted

no_place : (o : Option ℕ) → is_some o ≡ false → o ≡ None
no_place None h = refl
no_place (Some n) h = cc

-- Where no place was told, no connection is ready.
pub not_ready : (m : Machine) (o : Option ℕ) → option_map (connection_at m.connections) o ≡ first_ready m → o ≡ None → first_ready m ≡ None
not_ready m o e h = sym e ∙ ap (option_map (connection_at m.connections)) h

-- At once.
pub wake_ready : (m : Machine) (o : Option ℕ) → option_map (connection_at m.connections) o ≡ first_ready m → is_some o ≡ true → Some 0 ≡ wake m
unfolding wake
wake_ready m None e h = cc
wake_ready m (Some i) e h = ap (λ c. wake_by c (earliest (holders m))) e

wake_first : (m : Machine) (o : Option ℕ) (h : Option Holder) → option_map (connection_at m.connections) o ≡ first_ready m → is_some o ≡ false → earliest (holders m) ≡ h → option_map deadline_of h ≡ wake m
unfolding wake
wake_first m o h e n f =
    ap (option_map deadline_of) (sym f)
    ∙ ap (λ c. wake_by c (earliest (holders m))) (sym (not_ready m o e (no_place o n)))

-- Never.
pub wake_none : (m : Machine) (o r : Option ℕ) → option_map (connection_at m.connections) o ≡ first_ready m → is_some o ≡ false → earliest (holders m) ≡ None → r ≡ None → r ≡ wake m
wake_none m o r e n f h = h ∙ wake_first m o None e n f

-- At the first deadline.
pub wake_due : (m : Machine) (o : Option ℕ) (d : Due) (t : ℕ) → option_map (connection_at m.connections) o ≡ first_ready m → is_some o ≡ false
    → IsFirstDue m (Some d) → ((h : Holder) → Stands m d h → t ≡ deadline_of h) → Some t ≡ wake m
wake_due m o d t e n f k = ap (λ x. Some x) (k f.0 f.2) ∙ wake_first m o (Some f.0) e n f.1

-- A deadline that has come

query_step : (i : Input) (m : Machine) (n : ℕ) (a : Active) → IsRising 0 m.queries → slice_get m.queries n ≡ Some a
    → due_step (of_query a) i m ≡ progressed_by (after_event i.event a.attempt (occasion_of i m)) i a (record m { queries = remove m.queries n })
unfolding due_step given_to
query_step i m n a r h = ap (λ o. given_to o i m) (pick_serial 0 m.queries n a r h)

connection_step : (i : Input) (m : Machine) (c : Connection) → due_step (of_connection c) i m ≡ closed_with close_timeout c m
unfolding due_step
connection_step i m c = refl

module _ {S O : Type 0} (acted : O → List Action → O → Type 0) (cache : S → Cache) where
  -- A query's transmission hears of it.
  pub met_query : {x y : O} {c d : Clients S} (i : Input) (w : Due) (n : ℕ) → w ≡ due.Query n → IsRising 0 (machine_of cache c).queries
      → ((a : Active) → slice_get (machine_of cache c).queries n ≡ Some a → Took acted cache x c y d
      (progressed_by (after_event i.event a.attempt (occasion_of i (machine_of cache c))) i a (record (machine_of cache c) { queries = remove (machine_of cache c).queries n })))
      → (h : Holder) → Stands (machine_of cache c) w h → Took acted cache x c y d (due_step h i (machine_of cache c))
  met_query {x} {y} {c} {d} i w n e r t h s =
      let m : Machine = machine_of cache c in
      let k : Stands m (due.Query n) h = subst (λ v. Stands m v h) e s in
      let step : due_step h i m ≡ progressed_by (after_event i.event k.0.attempt (occasion_of i m)) i k.0 (record m { queries = remove m.queries n }) =
      ap (λ v. due_step v i m) k.2 ∙ query_step i m n k.0 r k.1 in
      took_as acted cache (due_step h i m) (progressed_by (after_event i.event k.0.attempt (occasion_of i m)) i k.0 (record m { queries = remove m.queries n })) step (t k.0 k.1)

  -- A connection is closed.
  pub met_connection : {x y : O} {c d : Clients S} (i : Input) (w : Due) (n : ℕ) → w ≡ due.Connection n
      → Took acted cache x c y d (closed_with close_timeout (connection_at (machine_of cache c).connections n) (machine_of cache c))
      → (h : Holder) → Stands (machine_of cache c) w h → Took acted cache x c y d (due_step h i (machine_of cache c))
  met_connection {x} {y} {c} {d} i w n e t h s =
      let m : Machine = machine_of cache c in
      let k : Stands m (due.Connection n) h = subst (λ v. Stands m v h) e s in
      let step : due_step h i m ≡ closed_with close_timeout (connection_at m.connections n) m =
      ap (λ v. due_step v i m) k.1 ∙ connection_step i m (connection_at m.connections n) in
      took_as acted cache (due_step h i m) (closed_with close_timeout (connection_at m.connections n) m) step t

-- A tick

first_seen : (m : Machine) (o p : Option ℕ) → option_map (connection_at m.connections) o ≡ first_ready m → o ≡ p → first_ready m ≡ option_map (connection_at m.connections) p
first_seen m o p e h = sym e ∙ ap (option_map (connection_at m.connections)) h

-- A ready connection has its request begun.
pub tick_ready : (i : Input) (m : Machine) (o : Option ℕ) (n : ℕ) → option_map (connection_at m.connections) o ≡ first_ready m → o ≡ Some n
    → tick_by (first_ready m) i m ≡ asked i (connection_at m.connections n) m
unfolding tick_by
tick_ready i m o n e h = ap (λ c. tick_by c i m) (first_seen m o (Some n) e h)

-- None is ready.
tick_due : (i : Input) (m : Machine) (o : Option ℕ) (h : Option Holder) → option_map (connection_at m.connections) o ≡ first_ready m → o ≡ None → earliest (holders m) ≡ h
    → tick_by (first_ready m) i m ≡ due_by h i m
unfolding tick_by
tick_due i m o h e n f = ap (λ c. tick_by c i m) (first_seen m o None e n) ∙ ap (λ x. due_by x i m) f

-- Nothing has a deadline.
pub tick_none : (i : Input) (m : Machine) (o : Option ℕ) → option_map (connection_at m.connections) o ≡ first_ready m → o ≡ None → earliest (holders m) ≡ None
    → tick_by (first_ready m) i m ≡ did [] m
unfolding due_by
tick_none i m o e n f = tick_due i m o None e n f

come : (t s now n : ℕ) → t ≡ s → n ≡ now → t ≤ n → nat_le s now ≡ true
come t s now n e f h = grind (arith, nat_tests)

still_to_come : (t s now n : ℕ) → t ≡ s → n ≡ now → n < t → nat_le s now ≡ false
still_to_come t s now n e f h = grind (arith, nat_tests)

-- The first deadline has come.
pub tick_met : (i : Input) (m : Machine) (o : Option ℕ) (w : Due) (t n : ℕ) (first : IsFirstDue m (Some w)) → option_map (connection_at m.connections) o ≡ first_ready m → o ≡ None
    → ((h : Holder) → Stands m w h → t ≡ deadline_of h) → n ≡ i.event.now → t ≤ n → tick_by (first_ready m) i m ≡ due_step first.0 i m
unfolding due_by
tick_met i m o w t n first e f k r l =
    tick_due i m o (Some first.0) e f first.1
    ∙ ap (λ b. if b then due_step first.0 i m else did [] m) (come t (deadline_of first.0) i.event.now n (k first.0 first.2) r l)

-- It is still to come.
pub tick_early : (i : Input) (m : Machine) (o : Option ℕ) (w : Due) (t n : ℕ) (first : IsFirstDue m (Some w)) → option_map (connection_at m.connections) o ≡ first_ready m → o ≡ None
    → ((h : Holder) → Stands m w h → t ≡ deadline_of h) → n ≡ i.event.now → n < t → tick_by (first_ready m) i m ≡ did [] m
unfolding due_by
tick_early i m o w t n first e f k r l =
    tick_due i m o (Some first.0) e f first.1
    ∙ ap (λ b. if b then due_step first.0 i m else did [] m) (still_to_come t (deadline_of first.0) i.event.now n (k first.0 first.2) r l)
