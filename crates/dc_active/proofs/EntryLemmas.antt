-- What entries show of their queries.
use Rattle.std.proofs.Common.{◌≡◌, ℕ, suc, ◌+◌, ◌-◌, ◌<◌, ◌≤◌, Bool, true, false, cond, not, List, [], ◌∷◌, length, get_or, Option, Some, None, IsSome, option_map, refl, ap, sym, ◌∙◌, subst, true≢false, arith}
use Rattle.std.specs.Prelude.{◌==◌, nat_lt}
use Rattle.std.specs.List.{slice_get, insert, remove, position, position_or_len}
use Rattle.dc_model.specs.Transmission.{Attempt}
use Rattle.dc_machine.specs.Kept.{AllOf}
use Rattle.dc_machine.specs.Machine.{Active, with_query, is_udp, is_on, one_if, udp_queries}
use Rattle.dc_machine.proofs.Lists.{all_map, all_of}
use Rattle.dc_active.specs.View.{client_of, attempt_or, entry_of, queries_of, IsFit}
use Rattle.dc_active.specs.declared.entry.Entry.{Entry}
use Rattle.std.proofs.lemmas.List.{length-map}
use Rattle.dc_active.proofs.ListLemmas.{get_read, all_read, map_remove, map_insert, place_most}
use Rattle.dc_active.proofs.CountLemmas.{count_put, count_taken, count_most, one_most}
use Rattle.dc_active.proofs.PickLemmas.{position_map}

-- What a transmission tells of an attempt that is made.
pub linked : (o : Option Attempt) → IsSome o → option_map (λ a. a.link) o ≡ Some (attempt_or o).link
linked None h = absurd (true≢false (sym h))
linked (Some a) h = refl

pub due : (o : Option Attempt) → IsSome o → option_map (λ a. a.deadline) o ≡ Some (attempt_or o).deadline
due None h = absurd (true≢false (sym h))
due (Some a) h = refl

-- The attempt that is made is the one that the query is seen with.
pub asked_is : (o : Option Attempt) → IsSome o → o ≡ Some (attempt_or o)
asked_is None h = absurd (true≢false (sym h))
asked_is (Some a) h = refl

pub has_link : (o : Option Attempt) → IsSome o → IsSome (option_map (λ a. a.link) o)
has_link None h = h
has_link (Some a) h = refl

pub has_deadline : (o : Option Attempt) → IsSome o → IsSome (option_map (λ a. a.deadline) o)
has_deadline None h = h
has_deadline (Some a) h = refl

-- The places that entries tell are those of their queries.
pub link_place : (link : ℕ) (es : List Entry) → AllOf IsFit es → position (λ e. e.link == link) es ≡ position (λ a. a.attempt.link == link) (queries_of es)
link_place link es h = position_map entry_of (λ e. e.link == link) (λ a. a.attempt.link == link) es
    (all_map IsFit (λ e. (e.link == link) ≡ ((entry_of e).attempt.link == link)) es (λ e k. ap (λ n. n == link) (sym k.link)) h)

pub udp_place : (es : List Entry) → position (λ e. is_udp (client_of e.client)) es ≡ position (λ a. is_udp a.client) (queries_of es)
udp_place es = position_map entry_of (λ e. is_udp (client_of e.client)) (λ a. is_udp a.client) es
    (all_of (λ e. is_udp (client_of e.client) ≡ is_udp (entry_of e).client) es (λ e. refl))

pub connection_place : (number : ℕ) (es : List Entry) → position (λ e. is_on number (client_of e.client)) es ≡ position (λ a. is_on number a.client) (queries_of es)
connection_place number es = position_map entry_of (λ e. is_on number (client_of e.client)) (λ a. is_on number a.client) es
    (all_of (λ e. is_on number (client_of e.client) ≡ is_on number (entry_of e).client) es (λ e. refl))

put_by : (v : Bool) (a b : Active) (bs rest : List Active) (n : ℕ) → insert bs n a ≡ rest → insert (b ∷ bs) (cond (not v) (1 + n) 0) a ≡ cond v (a ∷ b ∷ bs) (b ∷ rest)
put_by true a b bs rest n e = refl
put_by false a b bs rest n e = let s : 1 + n ≡ suc n = omega arith in ap (λ k. insert (b ∷ bs) k a) s ∙ ap (λ qs. b ∷ qs) e

-- A query that is put in at the place that entries tell stands in the order of serial numbers.
pub put_place : (a : Active) (es : List Entry) → insert (queries_of es) (position_or_len (λ e. nat_lt a.serial e.serial) es) a ≡ with_query a (queries_of es)
unfolding with_query
put_place a [] = refl
put_place a (e ∷ es) = put_by (nat_lt a.serial e.serial) a (entry_of e) (queries_of es) (with_query a (queries_of es)) (position_or_len (λ x. nat_lt a.serial x.serial) es) (put_place a es)

-- A query at a place, by the entry there.
pub entry_at : (es : List Entry) (qs : List Active) (i : ℕ) (e : Entry) → queries_of es ≡ qs → i < length qs → e ≡ get_or es i e → slice_get qs i ≡ Some (entry_of e)
entry_at es qs i e h l r = subst (λ xs. i < length xs → slice_get xs i ≡ Some (entry_of e)) h (λ k. get_read entry_of es i e (omega (arith, k, length-map es entry_of)) r) l

pub within : (es : List Entry) (qs : List Active) (i : ℕ) → queries_of es ≡ qs → i < length qs → i < length es
within es qs i h l = omega (arith, l, ap length h, length-map es entry_of)

pub deadline_at : (es : List Entry) (qs : List Active) (i : ℕ) (e : Entry) → AllOf IsFit es → queries_of es ≡ qs → i < length qs → e ≡ get_or es i e →
    option_map (λ a. a.attempt.deadline) (slice_get qs i) ≡ Some e.deadline
deadline_at es qs i e f h l r =
    ap (λ o. option_map (λ (a : Active). a.attempt.deadline) o) (entry_at es qs i e h l r)
    ∙ ap (λ n. Some n) (all_read IsFit es i e (within es qs i h l) r f).deadline

-- What the first entry that has to go behind a query tells.
pub put_at : (a : Active) (s n : ℕ) (es ys : List Entry) (qs : List Active) (e : Entry) → a.serial ≡ s → n ≡ position_or_len (λ x. nat_lt s x.serial) es → ys ≡ insert es n e → entry_of e ≡ a → queries_of es ≡ qs →
    queries_of ys ≡ with_query a qs
put_at a s n es ys qs e hs hn hy he hq =
    ap (λ xs. queries_of xs) hy
    ∙ map_insert entry_of es n e
    ∙ ap (λ b. insert (queries_of es) n b) he
    ∙ ap (λ k. insert (queries_of es) k a) (hn ∙ ap (λ m. position_or_len (λ (x : Entry). nat_lt m x.serial) es) (sym hs))
    ∙ put_place a es
    ∙ ap (λ xs. with_query a xs) hq

-- The number of UDP queries, where one is put in or taken out.
pub udp_put : (a : Active) (es ys : List Entry) (n k : ℕ) → queries_of ys ≡ with_query a (queries_of es) → n ≡ length (udp_queries (queries_of es)) → k ≡ one_if (is_udp a.client) →
    n + k ≡ length (udp_queries (queries_of ys))
udp_put a es ys n k hy hn hk = omega (arith, count_put a (queries_of es), ap (λ qs. length (udp_queries qs)) hy, hn, hk)

pub udp_room : (es : List Entry) (v : Bool) (n k : ℕ) → n ≡ length (udp_queries (queries_of es)) → k ≡ one_if v → n + k ≤ length es + 1
udp_room es v n k hn hk = omega (arith, count_most (queries_of es), length-map es entry_of, one_most v, hn, hk)

pub udp_taken : (es ys : List Entry) (i : ℕ) (e : Entry) (n k : ℕ) → i < length es → e ≡ get_or es i e → ys ≡ remove es i → n ≡ length (udp_queries (queries_of es)) → k ≡ one_if (is_udp (client_of e.client)) →
    n - k ≡ length (udp_queries (queries_of ys))
udp_taken es ys i e n k hi he hy hn hk =
    let whole = count_taken (queries_of es) i (entry_of e) (get_read entry_of es i e hi he) in
    let left : length (udp_queries (queries_of ys)) ≡ length (udp_queries (remove (queries_of es) i)) = ap (λ xs. length (udp_queries (queries_of xs))) hy ∙ ap (λ qs. length (udp_queries qs)) (map_remove entry_of es i) in
    omega (arith, whole, left, hn, hk)

pub udp_least : (es : List Entry) (i : ℕ) (e : Entry) (n k : ℕ) → i < length es → e ≡ get_or es i e → n ≡ length (udp_queries (queries_of es)) → k ≡ one_if (is_udp (client_of e.client)) → k ≤ n
udp_least es i e n k hi he hn hk =
    let whole = count_taken (queries_of es) i (entry_of e) (get_read entry_of es i e hi he) in
    omega (arith, whole, hn, hk)

pub length_of : (es : List Entry) (qs : List Active) → queries_of es ≡ qs → length qs ≡ length es
length_of es qs h = ap (λ xs. length xs) (sym h) ∙ length-map es entry_of

pub place_is : (s : ℕ) (es xs : List Entry) (n : ℕ) → xs ≡ es → n ≡ position_or_len (λ e. nat_lt s e.serial) xs → n ≡ position_or_len (λ e. nat_lt s e.serial) es
place_is s es xs n h e = e ∙ ap (λ ys. position_or_len (λ (e : Entry). nat_lt s e.serial) ys) h

pub place_within : (s : ℕ) (es xs : List Entry) (n : ℕ) → xs ≡ es → n ≡ position_or_len (λ e. nat_lt s e.serial) xs → n ≤ length es
place_within s es xs n h e = omega (arith, place_is s es xs n h e, place_most (λ (x : Entry). nat_lt s x.serial) es)
