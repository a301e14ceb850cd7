-- How a transmission starts, and what an event makes of its attempt.
use Rattle.std.proofs.Common.{◌≡◌, ℕ, suc, ◌+◌, ◌-◌, ◌<◌, ◌≤◌, ◌⊎◌, inl, inr, Bool, true, false, true≢false, cond, not, ◌&&◌, leb, eqb, List, [], ◌∷◌, ◌++◌, length, refl, sym, ap, arith}
use Rattle.std.proofs.lemmas.Bool.Decides.{nat_tests}
use Rattle.dc_model.specs.Name.{Name}
use Rattle.dc_model.specs.Event.{Event, Kind, tick, request, datagram, link_up, link_bytes, link_down, bind_refused, conn_up, conn_bytes, conn_down, Action}
use Rattle.dc_model.specs.Transmission.{Try, Attempt, Occasion, Progress, waiting, packet, failed, no_port, After, udp_plan, tcp_plan, started, with_plan, unsent, stays, linked, sent, tried, next_try, bad_news, is_patient, asked_by_tcp, is_relevant, is_truncated, is_served, is_whole, accepted, answered, after_datagram, after_whole, after_gathered, after_link_bytes, after_link_up, after_refusal, after_tick, is_from_server, after_link_event, after_kind, after_event}
use Rattle.dc_model.proofs.AttemptLemmas.{length-udp_plan, length-tcp_plan}
use Rattle.dc_trust.specs.Asking.{is_first}

-- The first attempt of a transmission

pub record Starts (a : Attempt) : Type 0 where
  pub first : is_first a ≡ true
  pub udp : a.over_tcp ≡ false
  pub most : suc (length a.later) ≤ 64
  pub plan : length a.later ≤ length (udp_plan a.recursive a.servers) - 1

first_is : (n m : ℕ) → n ≤ 1 + m → (not false && (eqb 0 0 && leb n (1 + m))) ≡ true
first_is n m h = grind (arith, nat_tests)

pub started_starts : (name : Name) (kind : ℕ) (recursive : Bool) (servers : List (List ℕ)) (o : Occasion) → length servers ≤ 16 → Starts (started name kind recursive servers o)
unfolding started linked
started_starts name kind recursive servers o l = by_plan (udp_plan recursive servers) refl (length-udp_plan recursive servers l) where
  by_plan : (ts : List Try) → udp_plan recursive servers ≡ ts → length ts ≤ 64 → Starts (linked (with_plan ts (unsent name kind recursive servers)) o)
  by_plan [] e h =
      let n : length (udp_plan recursive servers) ≡ 0 = ap (λ x. length x) e in
      record { first = first_is (length (udp_plan recursive servers)) 0 (omega (arith, n)); udp = refl; most = omega arith; plan = omega arith }
  by_plan (t ∷ ts) e h =
      let n : length (udp_plan recursive servers) ≡ suc (length ts) = ap (λ x. length x) e in
      record { first = first_is (length (udp_plan recursive servers)) (length ts) (omega (arith, n)); udp = refl; most = h; plan = omega (arith, n) }

-- What follows

-- The same attempt, on the same link.
pub record IsStill (a b : Attempt) : Type 0 where
  pub link : b.link ≡ a.link
  pub tcp : b.over_tcp ≡ a.over_tcp
  pub later : length b.later ≡ length a.later
  pub recursive : b.recursive ≡ a.recursive
  pub servers : b.servers ≡ a.servers

-- The same on a new link, as the local port was refused.
pub record IsResent (k : ℕ) (a b : Attempt) : Type 0 where
  pub link : k < b.link
  pub refused : 1 ≤ b.refusals
  pub tcp : b.over_tcp ≡ a.over_tcp
  pub later : length b.later ≡ length a.later
  pub recursive : b.recursive ≡ a.recursive
  pub servers : b.servers ≡ a.servers

-- The next one of the plan.
pub record IsNextTry (k : ℕ) (a b : Attempt) : Type 0 where
  pub link : k < b.link
  pub fresh : b.refusals ≡ 0
  pub tcp : b.over_tcp ≡ a.over_tcp
  pub later : suc (length b.later) ≡ length a.later
  pub recursive : b.recursive ≡ a.recursive
  pub servers : b.servers ≡ a.servers

-- The first one over TCP.
pub record IsByTcp (k : ℕ) (a b : Attempt) : Type 0 where
  pub link : k < b.link
  pub fresh : b.refusals ≡ 0
  pub was : a.over_tcp ≡ false
  pub tcp : b.over_tcp ≡ true
  pub later : suc (length b.later) ≤ 16

abbrev pub GoesTo : ℕ → Attempt → Attempt → Type 0
GoesTo k a b = IsStill a b ⊎ (IsResent k a b ⊎ (IsNextTry k a b ⊎ IsByTcp k a b))

unfoldable pub Goes : ℕ → Attempt → Progress → Type 0
Goes k a (waiting b) = GoesTo k a b
Goes k a (packet p) = Unit {0}
Goes k a failed = Unit {0}
Goes k a no_port = Unit {0}

abbrev GoesBy : ℕ → Attempt → After → Type 0
GoesBy k a f = Goes k a f.progress

by_cond : (k : ℕ) (a : Attempt) (v : Bool) (f f' : After) → (v ≡ true → GoesBy k a f) → (v ≡ false → GoesBy k a f') → GoesBy k a (cond v f f')
by_cond k a true f f' h g = h refl
by_cond k a false f f' h g = g refl

pub still : (a : Attempt) → IsStill a a
still a = record { link = refl; tcp = refl; later = refl; recursive = refl; servers = refl }

stays_goes : (k : ℕ) (a b : Attempt) (n : ℕ) → IsStill a b → GoesBy k a (stays b n)
unfolding Goes
stays_goes k a b n h = inl h

tried_goes : (a b : Attempt) (ts : List Try) (before : List Action) (o : Occasion) → IsStill a b → length ts ≡ length a.later → GoesBy o.links a (tried ts before b o)
unfolding Goes tried sent linked
tried_goes a b [] before o h e = tt
tried_goes a b (t ∷ ts) before o h e = inr (inr (inl (record { link = omega arith; fresh = refl; tcp = h.tcp; later = e; recursive = h.recursive; servers = h.servers })))

next_goes : (a b : Attempt) (o : Occasion) → IsStill a b → GoesBy o.links a (next_try b o)
unfolding next_try
next_goes a b o h = tried_goes a b b.later _ o h h.later

bad_goes : (a : Attempt) (o : Occasion) → GoesBy o.links a (bad_news a o)
unfolding bad_news
bad_goes a o = by_cond o.links a (is_patient a) _ _ (λ _. stays_goes o.links a a o.links (still a)) (λ _. next_goes a a o (still a))

accepted_goes : (k : ℕ) (a : Attempt) (bs : List ℕ) (b : Attempt) (n : ℕ) → GoesBy k a (accepted bs b n)
unfolding Goes accepted
accepted_goes k a bs b n = tt

tcp_goes : (a : Attempt) (ts : List Try) (before : List Action) (o : Occasion) → a.over_tcp ≡ false → length ts ≤ 16 → GoesBy o.links a (tried ts before (record a { over_tcp = true }) o)
unfolding Goes tried sent linked
tcp_goes a [] before o h l = tt
tcp_goes a (t ∷ ts) before o h l = inr (inr (inr (record { link = omega arith; fresh = refl; was = h; tcp = refl; later = l })))

answered_goes : (bs : List ℕ) (a : Attempt) (o : Occasion) → length a.servers ≤ 16 → a.over_tcp ≡ false → GoesBy o.links a (answered bs a o)
unfolding answered asked_by_tcp
answered_goes bs a o l h = by_cond o.links a (is_truncated bs) _ _ (λ _. tcp_goes a (tcp_plan a.servers) _ o h (length-tcp_plan a.servers l))
    (λ _. by_cond o.links a (is_served bs) _ _ (λ _. accepted_goes o.links a bs a o.links) (λ _. bad_goes a o))

not_true : (b c : Bool) → (not b && c) ≡ true → b ≡ false
not_true true c h = absurd (true≢false (sym h))
not_true false c h = refl

datagram_goes : (bs : List ℕ) (a : Attempt) (o : Occasion) → length a.servers ≤ 16 → GoesBy o.links a (after_datagram bs a o)
unfolding after_datagram
datagram_goes bs a o l = by_cond o.links a (not a.over_tcp && (leb (length bs) 512 && is_relevant a bs)) _ _ (λ h. answered_goes bs a o l (not_true a.over_tcp _ h)) (λ _. stays_goes o.links a a o.links (still a))

gathered_still : (a : Attempt) (g : List ℕ) → IsStill a (record a { gathered = g })
gathered_still a g = record { link = refl; tcp = refl; later = refl; recursive = refl; servers = refl }

whole_goes : (bs : List ℕ) (a : Attempt) (g : List ℕ) (o : Occasion) → GoesBy o.links a (after_whole bs (record a { gathered = g }) o)
unfolding after_whole
whole_goes bs a g o = by_cond o.links a (is_relevant (record a { gathered = g }) bs && (not (is_truncated bs) && is_served bs)) _ _ (λ _. accepted_goes o.links a bs (record a { gathered = g }) o.links)
    (λ _. next_goes a (record a { gathered = g }) o (gathered_still a g))

bytes_goes : (bs : List ℕ) (a : Attempt) (o : Occasion) → GoesBy o.links a (after_link_bytes bs a o)
unfolding after_link_bytes after_gathered
bytes_goes bs a o = by_cond o.links a (a.over_tcp && a.is_up) _ _
    (λ _. by_cond o.links a (is_whole (a.gathered ++ bs)) _ _ (λ _. whole_goes _ a (a.gathered ++ bs) o) (λ _. stays_goes o.links a (record a { gathered = a.gathered ++ bs }) o.links (gathered_still a (a.gathered ++ bs))))
    (λ _. stays_goes o.links a a o.links (still a))

up_goes : (a : Attempt) (k n : ℕ) → GoesBy k a (after_link_up a n)
unfolding after_link_up Goes
up_goes a k n = by_cond k a (a.over_tcp && not a.is_up) _ _ (λ _. inl (record { link = refl; tcp = refl; later = refl; recursive = refl; servers = refl })) (λ _. stays_goes k a a n (still a))

refusal_goes : (a : Attempt) (o : Occasion) → GoesBy o.links a (after_refusal a o)
unfolding after_refusal Goes sent linked
refusal_goes a o = by_cond o.links a (leb 9 a.refusals) _ _ (λ _. tt) (λ _. inr (inl (record { link = omega arith; refused = omega arith; tcp = refl; later = refl; recursive = refl; servers = refl })))

tick_goes : (a : Attempt) (o : Occasion) → GoesBy o.links a (after_tick a o)
unfolding after_tick
tick_goes a o = by_cond o.links a (leb a.deadline o.now) _ _ (λ _. next_goes a a o (still a)) (λ _. stays_goes o.links a a o.links (still a))

link_event_goes : (k : Kind) (e : Event) (a : Attempt) (o : Occasion) → length a.servers ≤ 16 → GoesBy o.links a (after_link_event k e a o)
unfolding after_link_event
link_event_goes datagram e a o l = by_cond o.links a (is_from_server a e) _ _ (λ _. datagram_goes e.bytes a o l) (λ _. stays_goes o.links a a o.links (still a))
link_event_goes link_up e a o l = up_goes a o.links o.links
link_event_goes link_bytes e a o l = by_cond o.links a (is_from_server a e) _ _ (λ _. bytes_goes e.bytes a o) (λ _. stays_goes o.links a a o.links (still a))
link_event_goes link_down e a o l = bad_goes a o
link_event_goes bind_refused e a o l = refusal_goes a o
link_event_goes tick e a o l = stays_goes o.links a a o.links (still a)
link_event_goes request e a o l = stays_goes o.links a a o.links (still a)
link_event_goes conn_up e a o l = stays_goes o.links a a o.links (still a)
link_event_goes conn_bytes e a o l = stays_goes o.links a a o.links (still a)
link_event_goes conn_down e a o l = stays_goes o.links a a o.links (still a)

kind_goes : (k : Kind) (e : Event) (a : Attempt) (o : Occasion) → length a.servers ≤ 16 → GoesBy o.links a (after_kind k e a o)
unfolding after_kind
kind_goes tick e a o l = tick_goes a o
kind_goes k e a o l = by_cond o.links a (eqb e.id a.link) _ _ (λ _. link_event_goes k e a o l) (λ _. stays_goes o.links a a o.links (still a))

pub event_goes : (e : Event) (a : Attempt) (o : Occasion) → length a.servers ≤ 16 → Goes o.links a (after_event e a o).progress
unfolding after_event
event_goes e a o l = kind_goes e.kind e a o l
