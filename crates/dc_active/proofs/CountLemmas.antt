-- How many queries are of clients over UDP.
use Rattle.std.proofs.Common.{◌≡◌, ℕ, zero, suc, ◌+◌, ◌≤◌, Bool, true, false, cond, List, [], ◌∷◌, length, Some, arith}
use Rattle.std.specs.List.{slice_get, remove}
use Rattle.dc_machine.specs.Machine.{Active, with_query, is_udp, one_if, udp_queries}

count_by : (a : Active) (qs : List Active) (v : Bool) → length (cond v (a ∷ qs) qs) ≡ one_if v + length qs
count_by a qs true = omega arith
count_by a qs false = omega arith

count_cons : (a : Active) (qs : List Active) → length (udp_queries (a ∷ qs)) ≡ one_if (is_udp a.client) + length (udp_queries qs)
count_cons a qs = count_by a (udp_queries qs) (is_udp a.client)

put_by : (a b : Active) (bs cs : List Active) (v : Bool) → length (udp_queries cs) ≡ length (udp_queries bs) + one_if (is_udp a.client) →
    length (udp_queries (cond v (a ∷ b ∷ bs) (b ∷ cs))) ≡ length (udp_queries (b ∷ bs)) + one_if (is_udp a.client)
put_by a b bs cs true e = omega (arith, count_cons a (b ∷ bs))
put_by a b bs cs false e = omega (arith, count_cons b cs, count_cons b bs, e)

-- One more, where the query that is put in is one.
pub count_put : (a : Active) (qs : List Active) → length (udp_queries (with_query a qs)) ≡ length (udp_queries qs) + one_if (is_udp a.client)
unfolding with_query
count_put a [] = omega (arith, count_cons a [])
count_put a (b ∷ bs) = put_by a b bs (with_query a bs) _ (count_put a bs)

-- One less, where the query that is taken out is one.
pub count_taken : (qs : List Active) (i : ℕ) (a : Active) → slice_get qs i ≡ Some a → length (udp_queries (remove qs i)) + one_if (is_udp a.client) ≡ length (udp_queries qs)
count_taken [] i a h = cc
count_taken (b ∷ bs) zero a h = let same : one_if (is_udp b.client) ≡ one_if (is_udp a.client) = cc in omega (arith, count_cons b bs, same)
count_taken (b ∷ bs) (suc i) a h = omega (arith, count_cons b (remove bs i), count_cons b bs, count_taken bs i a h)

-- At most one.
pub one_most : (v : Bool) → one_if v ≤ 1
one_most true = omega arith
one_most false = omega arith

-- No more than there are queries.
pub count_most : (qs : List Active) → length (udp_queries qs) ≤ length qs
count_most [] = omega arith
count_most (b ∷ bs) = omega (arith, count_cons b bs, one_most (is_udp b.client), count_most bs)
