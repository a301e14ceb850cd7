-- Active queries are at most 220: 200 over UDP, and one for each connection.
use Rattle.std.proofs.Common.{◌≡◌, ◌≢◌, ℕ, suc, ◌+◌, ◌≤◌, Bool, true, false, List, [], ◌∷◌, length, refl, sym, subst, arith, true≢false}
use Rattle.std.specs.Prelude.{IsTrue, filter, not, if◌then◌else◌, ◌==◌, ◌||◌}
use Rattle.std.specs.List.{list_any}
use Rattle.std.proofs.lemmas.Bool.Decides.{nat_tests}
use Rattle.dc_machine.specs.Machine.{Machine, Client, by_udp, by_tcp, Active, Connection, is_udp, udp_queries, without_connection}
use Rattle.dc_machine.specs.Kept.{AllOf, Pairwise, IsOther, IsOpen, IsApart, IsWithin, IsSound, IsRoomy}

-- The queries of clients over TCP.
abbrev tcp_queries : List Active → List Active
tcp_queries as' = filter (λ a. not (is_udp a.client)) as'

all_counted : (as' : List Active) → length as' ≡ length (udp_queries as') + length (tcp_queries as')
all_counted [] = refl
all_counted (a ∷ as') = elim (is_udp a.client) as (λ b. suc (length as') ≡ length (if b then a ∷ udp_queries as' else udp_queries as') + length (if not b then a ∷ tcp_queries as' else tcp_queries as'))
    [ true ↦ omega (arith, all_counted as') | false ↦ omega (arith, all_counted as') ]

fewer_by : (b : Bool) (c : Connection) (cs : List Connection) (n k : ℕ) → length cs ≤ n → (b ≡ true → k ≡ 0) → length (if not b then c ∷ cs else cs) ≤ suc n
fewer_by true c cs n k h e = omega (arith, h)
fewer_by false c cs n k h e = omega (arith, h)

without_most : (n : ℕ) (cs : List Connection) → length (without_connection n cs) ≤ length cs
without_most n [] = omega arith
without_most n (c ∷ cs) = fewer_by (c.number == n) c (without_connection n cs) (length cs) 0 (without_most n cs) (λ e. refl)

drops_by : (b : Bool) (c : Connection) (cs ds : List Connection) → length cs ≤ length ds → (b ≡ false → length cs + 1 ≤ length ds) → length (if not b then c ∷ cs else cs) + 1 ≤ suc (length ds)
drops_by true c cs ds h k = omega (arith, h)
drops_by false c cs ds h k = omega (arith, k refl)

or_right : (b c : Bool) → IsTrue (b || c) → b ≡ false → IsTrue c
or_right b c h e = subst (λ x. IsTrue (x || c)) e h

without_less : (n : ℕ) (cs : List Connection) → IsTrue (list_any (λ c. c.number == n) cs) → length (without_connection n cs) + 1 ≤ length cs
without_less n [] h = absurd (true≢false (sym h))
without_less n (c ∷ cs) h = drops_by (c.number == n) c (without_connection n cs) cs (without_most n cs) (λ e. without_less n cs (or_right (c.number == n) (list_any (λ (d : Connection). d.number == n) cs) h e))

-- A connection of another number stays.
stays_by : (b d : Bool) (c : Connection) (cs ds : List Connection) (test : Connection → Bool) → test c ≡ d → (b ≡ true → d ≡ false)
    → (IsTrue (list_any test cs) → IsTrue (list_any test ds)) → IsTrue (d || list_any test cs) → IsTrue (list_any test (if not b then c ∷ ds else ds))
stays_by true true c cs ds test e f g h = absurd (true≢false (f refl))
stays_by true false c cs ds test e f g h = g h
stays_by false true c cs ds test e f g h = subst (λ x. IsTrue (x || list_any test ds)) (sym e) refl
stays_by false false c cs ds test e f g h = subst (λ x. IsTrue (x || list_any test ds)) (sym e) (g h)

other_number : (m n k : ℕ) → n ≢ k → (m == n) ≡ true → (m == k) ≡ false
other_number m n k d e = grind (arith, nat_tests)

still_open : (n k : ℕ) → n ≢ k → (cs : List Connection) → IsTrue (list_any (λ c. c.number == k) cs) → IsTrue (list_any (λ c. c.number == k) (without_connection n cs))
still_open n k d [] h = h
still_open n k d (c ∷ cs) h = stays_by (c.number == n) (c.number == k) c cs (without_connection n cs) (λ e. e.number == k) refl (other_number c.number n k d) (still_open n k d cs) h

open_still : (n : ℕ) (b : Client) (cs : List Connection) → IsOther (by_tcp n) b → IsOpen cs b → IsOpen (without_connection n cs) b
unfolding IsOther IsOpen
open_still n (by_udp addr port) cs d h = h
open_still n (by_tcp k) cs d h = still_open n k d cs h

-- Each client's connection is open.
unfoldable AreOpen : List Connection → List Active → Type 0
AreOpen cs [] = Unit {0}
AreOpen cs (a ∷ as') = IsOpen cs a.client × AreOpen cs as'

all_still : (a : Active) (n : ℕ) (cs : List Connection) (as' : List Active) → a.client ≡ by_tcp n → AllOf (IsApart a) as' → AreOpen cs as' → AreOpen (without_connection n cs) as'
unfolding AllOf AreOpen
all_still a n cs [] e d h = h
all_still a n cs (b ∷ as') e d h = (open_still n b.client cs (subst (λ x. IsOther x b.client) e d.0.clients) h.0, all_still a n cs as' e d.1 h.1)

open_of : (k n : ℕ) (cs : List Connection) (as' : List Active) → AllOf (IsWithin k n cs) as' → AreOpen cs as'
unfolding AllOf AreOpen
open_of k n cs [] h = h
open_of k n cs (a ∷ as') h = (h.0.client, open_of k n cs as' h.1)

few_by : (c : Client) (a : Active) (cs : List Connection) (as' : List Active) → a.client ≡ c → ((ds : List Connection) → AreOpen ds as' → length (tcp_queries as') ≤ length ds) → AllOf (IsApart a) as' → IsOpen cs c → AreOpen cs as'
    → length (if not (is_udp c) then a ∷ tcp_queries as' else tcp_queries as') ≤ length cs
unfolding IsOpen
few_by (by_udp addr port) a cs as' e f d o h = f cs h
few_by (by_tcp n) a cs as' e f d o h = omega (arith, f (without_connection n cs) (all_still a n cs as' e d h), without_less n cs o)

few_streams : (as' : List Active) (cs : List Connection) → Pairwise IsApart as' → AreOpen cs as' → length (tcp_queries as') ≤ length cs
unfolding Pairwise AreOpen
few_streams [] cs d h = omega arith
few_streams (a ∷ as') cs d h = few_by a.client a cs as' refl (λ ds k. few_streams as' ds d.1 k) d.0 h.0 h.1

-- There are at most 220 active queries.
pub queries_few : (m : Machine) → IsSound m → IsRoomy m → length m.queries ≤ 220
queries_few m s r = omega (arith, all_counted m.queries, few_streams m.queries m.connections s.apart (open_of m.accepted m.links m.connections m.queries s.each), r.udp, r.tcp)
