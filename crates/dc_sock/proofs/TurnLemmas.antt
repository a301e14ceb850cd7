-- Over whole runs what is ready is looked at in turn.
use Rattle.std.specs.Prelude.{◌≡◌, ◌⊎◌, ◌≤◌, ◌<◌, ◌+◌, ◌-◌, ◌==◌, ◌||◌, ℕ, Bool, true, false, if◌then◌else◌, List, [], ◌∷◌, ◌++◌, length, slice_get, refl}
use Rattle.std.proofs.Common.{inl, inr, sym, subst, ◌∙◌, ap, append_assoc, arith}
use Rattle.std.proofs.lemmas.Bool.Decides.{eqb_tells}
use Rattle.std.proofs.lemmas.List.{append-nil}
use Rattle.std.proofs.lemmas.Option.{slice_get_within}
use Rattle.std.specs.List.{AllByRecursion, IsDistinct, list_any}
use Rattle.std.specs.declared.option.Option.{Option}
use Rattle.std.specs.declared.option.Option.TheVariants.{None, Some}
use Rattle.slab.specs.Slab.{Slab, get, Updates}
use Rattle.dc_model.specs.Event.{Event as ModelEvent, Action, reply, conn_reply, conn_close, udp, tcp, link_write, link_close, line}
use Rattle.dc_event.specs.History.{Answer, Exchange, listened, asked, gathered, did}
use Rattle.dc_event.specs.History as history
use Rattle.dc_system.specs.Call.{Call}
use Rattle.dc_system.specs.Call as call
use Rattle.dc_system.specs.declared.answers.Accepted.{Accepted}
use Rattle.dc_system.specs.declared.answers.Accepted.TheVariants as accepted
use Rattle.dc_system.specs.declared.answers.Bound.{Bound}
use Rattle.dc_system.specs.declared.answers.Bound.TheVariants as bound
use Rattle.dc_system.specs.declared.answers.NoSocket.{NoSocket}
use Rattle.dc_system.specs.declared.answers.NoSocket.TheVariants as no_socket
use Rattle.dc_system.specs.declared.answers.Part.{Part}
use Rattle.dc_system.specs.declared.answers.Part.TheVariants as part
use Rattle.dc_sock.specs.declared.found.Step.{Step}
use Rattle.dc_sock.specs.declared.found.Step.TheVariants as step
use Rattle.dc_sock.specs.declared.link.Link.{Link}
use Rattle.dc_sock.specs.declared.link.Opening.{Opening}
use Rattle.dc_sock.specs.declared.link.Opening.TheVariants as opening
use Rattle.dc_sock.specs.declared.link.Way.{Way}
use Rattle.dc_sock.specs.declared.link.Way.TheVariants.{Udp, Connecting, Connected, Missing}
use Rattle.dc_sock.specs.declared.place.Place.{Place}
use Rattle.dc_sock.specs.declared.place.Place.TheVariants as place
use Rattle.dc_sock.specs.declared.seat.Conn.{Conn}
use Rattle.dc_sock.specs.declared.seat.Seat.{Seat}
use Rattle.dc_sock.specs.ClientCalls.{Hearing, refused, deaf, both, listen_calls, HearsRequests, AcceptGives, Accepts, HearsSeat, GoesSeat, Replies, seat_socket, is_over, marked_over}
use Rattle.dc_sock.specs.Edge.{Edge, IsLate, IsVacant, PassesOver, Passes, QuietAccept, QuietRead, QuietCall, Quiet, Looks, Finds, Ticks, Hears, NoneCame}
use Rattle.dc_sock.specs.Passed.{Passed, exchanged, none_came, exchanges_of}
use Rattle.dc_sock.specs.LinkCalls.{udp_calls, close_calls, write_calls, took_all, HearsWay}
use Rattle.dc_sock.specs.Links.{RisesWay, Goes, LooksAt, link_socket}
use Rattle.dc_sock.specs.Log.{Gathered, PrintsText, PutsLineIf, LinesIf}
use Rattle.dc_sock.specs.Place.{place_at}
use Rattle.dc_sock.specs.Promises.{GoesOnListening}
use Rattle.dc_sock.specs.Ready.{Watched, mark_in, hold_in, recalled, recalled_by, next_token, without_token, renewed}
use Rattle.dc_sock.specs.Round.{Round, Takes, TakesOrTries, again_behind, again_if, missing_in, marked_by_all, InTurn, Told}
use Rattle.dc_sock.specs.SeatCalls.{PutsConn, PutsSeat, ReadsBehind, LooksAtConn, LooksAtSeat}
use Rattle.dc_sock.specs.Streams.{IsNumbered}
use Rattle.dc_sock.specs.Turns.{looks_by, is_look, is_wait, is_told, Either, WithinTurns, IsSeenSoon, IsSeen, IsLow, AreLow, IsInOrder, LooksInTurn}
use Rattle.dc_sock.specs.World.{Shown, IsFresh, Makes, Gave, Accounted, Explained}
use Rattle.dc_sock.proofs.AnswerLemmas.{part_numbered}
use Rattle.dc_sock.proofs.Marks.{turn_used}
use Rattle.dc_sock.proofs.OrderLemmas.{Ordered, AreBelow, InOrder, order_marked, held_order, recalled_order, recalled_at, ordered_taken, taken_low, marked_at, Stands, taken_stands, marked_stands, all_turns_used}
use Rattle.dc_sock.proofs.RoundLemmas.{passes_same}

-- Calls between which nothing is waited for and nothing is told to be ready, and how many looks are among them.
abbrev is_pause : Call → Bool
is_pause (call.bind s addr port answer) = false
is_pause (call.connect s addr port answer) = false
is_pause (call.send s bytes answer) = false
is_pause (call.send_to s addr port bytes answer) = false
is_pause (call.receive s answer bytes) = false
is_pause (call.listen s addr port answer) = false
is_pause (call.accept l s answer) = false
is_pause (call.begin s addr port server to answer) = false
is_pause (call.stands s answer) = false
is_pause (call.read s answer bytes) = false
is_pause (call.write s bytes answer) = false
is_pause (call.close s) = false
is_pause (call.wait pause answer) = true
is_pause (call.ready answer) = true
is_pause (call.now answer) = false
is_pause (call.print bytes answer) = false

awake_waits : (x : Call) → is_pause x ≡ false → is_wait x ≡ false
awake_waits (call.bind s addr port answer) p = refl
awake_waits (call.connect s addr port answer) p = refl
awake_waits (call.send s bytes answer) p = refl
awake_waits (call.send_to s addr port bytes answer) p = refl
awake_waits (call.receive s answer bytes) p = refl
awake_waits (call.listen s addr port answer) p = refl
awake_waits (call.accept l s answer) p = refl
awake_waits (call.begin s addr port server to answer) p = refl
awake_waits (call.stands s answer) p = refl
awake_waits (call.read s answer bytes) p = refl
awake_waits (call.write s bytes answer) p = refl
awake_waits (call.close s) p = refl
awake_waits (call.wait pause answer) p = cc
awake_waits (call.ready answer) p = refl
awake_waits (call.now answer) p = refl
awake_waits (call.print bytes answer) p = refl

awake_tells : (socket : ℕ) (x : Call) → is_pause x ≡ false → is_told socket x ≡ false
awake_tells socket (call.bind s addr port answer) p = refl
awake_tells socket (call.connect s addr port answer) p = refl
awake_tells socket (call.send s bytes answer) p = refl
awake_tells socket (call.send_to s addr port bytes answer) p = refl
awake_tells socket (call.receive s answer bytes) p = refl
awake_tells socket (call.listen s addr port answer) p = refl
awake_tells socket (call.accept l s answer) p = refl
awake_tells socket (call.begin s addr port server to answer) p = refl
awake_tells socket (call.stands s answer) p = refl
awake_tells socket (call.read s answer bytes) p = refl
awake_tells socket (call.write s bytes answer) p = refl
awake_tells socket (call.close s) p = refl
awake_tells socket (call.wait pause answer) p = refl
awake_tells socket (call.ready answer) p = cc
awake_tells socket (call.now answer) p = refl
awake_tells socket (call.print bytes answer) p = refl

abbrev AreAwake : List Call → Type 0
AreAwake calls = AllByRecursion (λ (x : Call). is_pause x ≡ false) calls

abbrev looks_in : List Call → ℕ
looks_in [] = 0
looks_in (x ∷ xs) = looks_by x + looks_in xs

abbrev Costs : ℕ → List Call → Type 0
Costs looks calls = AreAwake calls × (looks_in calls ≤ looks)

all_both : (P : Call → Type 0) (xs ys : List Call) → AllByRecursion P xs → AllByRecursion P ys → AllByRecursion P (xs ++ ys)
all_both P [] ys p q = q
all_both P (x ∷ xs) ys p q = (p.0, all_both P xs ys p.1 q)

all_split : (P : Call → Type 0) (xs ys : List Call) → AllByRecursion P (xs ++ ys) → AllByRecursion P xs × AllByRecursion P ys
all_split P [] ys p = (tt, p)
all_split P (x ∷ xs) ys p = let rest = all_split P xs ys p.1 in ((p.0, rest.0), rest.1)

looks_both : (xs ys : List Call) → looks_in (xs ++ ys) ≡ looks_in xs + looks_in ys
looks_both [] ys = omega arith
looks_both (x ∷ xs) ys = omega (arith, looks_both xs ys)

costs_both : (n m : ℕ) (xs ys : List Call) → Costs n xs → Costs m ys → Costs (n + m) (xs ++ ys)
costs_both n m xs ys p q =
    let one = p.1 in
    let other = q.1 in
    (all_both (λ (x : Call). is_pause x ≡ false) xs ys p.0 q.0, omega (arith, looks_both xs ys))

costs_as : (n : ℕ) (calls xs : List Call) → calls ≡ xs → Costs n xs → Costs n calls
costs_as n calls xs e p = subst (Costs n) (sym e) p

costs_none : (n : ℕ) → Costs n []
costs_none n = (tt, omega arith)

costs_more : (n m : ℕ) (calls : List Call) → n ≤ m → Costs n calls → Costs m calls
costs_more n m calls l p = let few = p.1 in (p.0, omega arith)

-- What such calls do to what is said of the rest.
within_step : (waits : Bool) (x : Call) (xs : List Call) (n m : ℕ) → n ≤ m → (WithinTurns (n - looks_by x) xs → WithinTurns (m - looks_by x) xs) → Either waits (WithinTurns 64 xs) ((looks_by x ≤ n) × WithinTurns (n - looks_by x) xs) → Either waits (WithinTurns 64 xs) ((looks_by x ≤ m) × WithinTurns (m - looks_by x) xs)
within_step true x xs n m l more w = w
within_step false x xs n m l more w = let few = w.0 in (omega arith, more w.1)

within_more : (xs : List Call) (n m : ℕ) → n ≤ m → WithinTurns n xs → WithinTurns m xs
within_more [] n m l w = tt
within_more (x ∷ xs) n m l w = within_step (is_wait x) x xs n m l (λ v. within_more xs (n - looks_by x) (m - looks_by x) (omega arith) v) w

awake_within : (calls rest : List Call) (n m : ℕ) → AreAwake calls → looks_in calls + m ≤ n → WithinTurns m rest → WithinTurns n (calls ++ rest)
awake_within [] rest n m a l w = within_more rest m n (omega arith) w
awake_within (x ∷ xs) rest n m a l w =
    subst (λ (b : Bool). Either b (WithinTurns 64 (xs ++ rest)) ((looks_by x ≤ n) × WithinTurns (n - looks_by x) (xs ++ rest))) (sym (awake_waits x a.0))
    (omega arith, awake_within xs rest (n - looks_by x) m a.1 (omega arith) w)

skip_look : (look : Bool) (A : Type 0) → A → Either look (Unit {0}) A
skip_look true A p = tt
skip_look false A p = p

awake_soon : (socket waits : ℕ) (calls rest : List Call) → AreAwake calls → IsSeenSoon socket waits rest → IsSeenSoon socket waits (calls ++ rest)
awake_soon socket waits [] rest a s = s
awake_soon socket waits (x ∷ xs) rest a s =
    skip_look (is_look socket x) (Either (is_wait x) ((0 < waits) × IsSeenSoon socket (waits - 1) (xs ++ rest)) (IsSeenSoon socket waits (xs ++ rest)))
    (subst (λ (b : Bool). Either b ((0 < waits) × IsSeenSoon socket (waits - 1) (xs ++ rest)) (IsSeenSoon socket waits (xs ++ rest))) (sym (awake_waits x a.0))
    (awake_soon socket waits xs rest a.1 s))

abbrev LooksAtIt : ℕ → List Call → Type 0
LooksAtIt socket calls = list_any (is_look socket) calls ≡ true

look_or : (look : Bool) (socket waits : ℕ) (x : Call) (xs rest : List Call) → is_pause x ≡ false → (look || list_any (is_look socket) xs) ≡ true → (LooksAtIt socket xs → IsSeenSoon socket waits (xs ++ rest)) → Either look (Unit {0}) (Either (is_wait x) ((0 < waits) × IsSeenSoon socket (waits - 1) (xs ++ rest)) (IsSeenSoon socket waits (xs ++ rest)))
look_or true socket waits x xs rest a l more = tt
look_or false socket waits x xs rest a l more =
    subst (λ (b : Bool). Either b ((0 < waits) × IsSeenSoon socket (waits - 1) (xs ++ rest)) (IsSeenSoon socket waits (xs ++ rest))) (sym (awake_waits x a)) (more l)

look_soon : (socket waits : ℕ) (calls rest : List Call) → AreAwake calls → LooksAtIt socket calls → IsSeenSoon socket waits (calls ++ rest)
look_soon socket waits [] rest a l = cc
look_soon socket waits (x ∷ xs) rest a l = look_or (is_look socket x) socket waits x xs rest a.0 l (look_soon socket waits xs rest a.1)

awake_seen : (socket waits : ℕ) (calls rest : List Call) → AreAwake calls → IsSeen socket waits rest → IsSeen socket waits (calls ++ rest)
awake_seen socket waits [] rest a s = s
awake_seen socket waits (x ∷ xs) rest a s =
    (subst (λ (b : Bool). Either b (IsSeenSoon socket waits (xs ++ rest)) (Unit {0})) (sym (awake_tells socket x a.0)) tt, awake_seen socket waits xs rest a.1 s)

-- What is kept of the order, beside the places.
abbrev LinksLow : Slab Link → Type 0
LinksLow links = (key : ℕ) (link : Link) → get links key ≡ Some link → link_socket key < 250

order_from : (a b : Edge) → IsInOrder a → (InOrder a.round.watch → InOrder b.round.watch) → (LinksLow a.links → LinksLow b.links) → IsInOrder b
order_from a b o ready links =
    let r = ready ((o.once, o.below), o.held) in
    let l = links o.links in
    record { once = r.0.0; below = r.0.1; held = r.1; links = l }

-- A part of a run.
record Runs (a : Edge) (calls : List Call) (b : Edge) : Type 0 where
  hears : b.hears ≡ a.hears
  within : (rest : List Call) → WithinTurns b.round.watch.turns rest → WithinTurns a.round.watch.turns (calls ++ rest)
  leads : (socket : ℕ) → socket ≤ 1 → a.hears ≡ true → (rest : List Call) (q m : ℕ) → Stands socket q m a.round.watch → ((p k : ℕ) → Stands socket p k b.round.watch → IsSeenSoon socket k rest) → IsSeenSoon socket m (calls ++ rest)
  order : IsInOrder a → AreLow calls → IsInOrder b
  seen : (socket : ℕ) → socket ≤ 1 → a.hears ≡ true → IsInOrder a → AreLow calls → (rest : List Call) → IsSeen socket 4 rest → ((p k : ℕ) → Stands socket p k b.round.watch → IsSeenSoon socket k rest) → IsSeen socket 4 (calls ++ rest)

runs_both : (a m b : Edge) (xs ys : List Call) → Runs a xs m → Runs m ys b → Runs a (xs ++ ys) b
runs_both a m b xs ys p q = record {
  hears = q.hears ∙ p.hears;
  within = λ rest w. subst (λ (l : List Call). WithinTurns a.round.watch.turns l) (sym (append_assoc xs ys rest)) (p.within (ys ++ rest) (q.within rest w));
  leads = λ s small h rest n k st go.
      subst (λ (l : List Call). IsSeenSoon s k l) (sym (append_assoc xs ys rest))
      (p.leads s small h (ys ++ rest) n k st (λ (i j : ℕ) t. q.leads s small (p.hears ∙ h) rest i j t go));
  order = λ o low. let parts = all_split IsLow xs ys low in q.order (p.order o parts.0) parts.1;
  seen = λ s small h o low rest more go.
      let parts = all_split IsLow xs ys low in
      subst (λ (l : List Call). IsSeen s 4 l) (sym (append_assoc xs ys rest))
      (p.seen s small h o parts.0 (ys ++ rest) (q.seen s small (p.hears ∙ h) (p.order o parts.0) parts.1 rest more go)
      (λ (i j : ℕ) t. q.leads s small (p.hears ∙ h) rest i j t go));
}

-- One without waits and without sockets that are told.
abbrev Goes_on : Edge → List Call → Edge → Type 0
Goes_on a calls b = (socket : ℕ) → socket ≤ 1 → a.hears ≡ true → (q m : ℕ) → Stands socket q m a.round.watch → LooksAtIt socket calls ⊎ ((p : ℕ) × Stands socket p m b.round.watch)

awake_runs : (a b : Edge) (calls : List Call) (n : ℕ) → Costs n calls → n + b.round.watch.turns ≤ a.round.watch.turns → b.hears ≡ a.hears → Goes_on a calls b → (IsInOrder a → AreLow calls → IsInOrder b) → Runs a calls b
awake_runs a b calls n c l h g o =
    let few = c.1 in
    record {
      hears = h;
      within = λ rest w. awake_within calls rest a.round.watch.turns b.round.watch.turns c.0 (omega arith) w;
      leads = λ s small on rest q m st go. elim (g s small on q m st) [
        | inl seen ↦ look_soon s m calls rest c.0 seen
        | inr still ↦ awake_soon s m calls rest c.0 (go still.0 m still.1)
      ];
      order = o;
      seen = λ s small on ord low rest more go. awake_seen s 4 calls rest c.0 more;
    }

-- States that are the same in all of this.
runs_left : (a b c : Edge) (calls : List Call) → Runs a calls b → c.round ≡ b.round → c.hears ≡ b.hears → c.links ≡ b.links → Runs a calls c
runs_left a b c calls p r h l = record {
  hears = h ∙ p.hears;
  within = λ rest w. p.within rest (subst (λ (x : Round). WithinTurns x.watch.turns rest) r w);
  leads = λ s small on rest q m st go. p.leads s small on rest q m st (λ (i j : ℕ) t. go i j (subst (λ (x : Round). Stands s i j x.watch) (sym r) t));
  order = λ o low. order_from b c (p.order o low) (λ x. subst (λ (y : Round). InOrder y.watch) (sym r) x) (λ x. subst LinksLow (sym l) x);
  seen = λ s small on o low rest more go. p.seen s small on o low rest more (λ (i j : ℕ) t. go i j (subst (λ (x : Round). Stands s i j x.watch) (sym r) t));
}

still_runs : (a b : Edge) (calls : List Call) → Costs 0 calls → b.round ≡ a.round → b.hears ≡ a.hears → b.links ≡ a.links → Runs a calls b
still_runs a b calls c r h l =
    awake_runs a b calls 0 c (omega (arith, ap (λ (x : Round). x.watch.turns) r)) h
    (λ s small on q m st. inr (q, subst (λ (x : Round). Stands s q m x.watch) (sym r) st))
    (λ o low. order_from a b o (λ x. subst (λ (y : Round). InOrder y.watch) (sym r) x) (λ x. subst LinksLow (sym l) x))

-- Sources that are passed over aren't those on which clients are heard, while they are.
vacant_far : (hears : Bool) (seats : List Seat) (links : Slab Link) (socket : ℕ) → socket ≤ 1 → hears ≡ true → IsVacant hears seats links (place_at socket) → ⊥
vacant_far hears seats links socket small on v = elim (eqb_tells socket 0) [
  | inl zeroth ↦
      let off : hears ≡ false = subst (λ n. IsVacant hears seats links (place_at n)) zeroth.1 v in
      let wrong : true ≡ false = sym on ∙ off in
      (cc)
  | inr more ↦
      let one : socket ≡ 1 = omega (arith, small, more.1) in
      let off : hears ≡ false = subst (λ n. IsVacant hears seats links (place_at n)) one v in
      let wrong : true ≡ false = sym on ∙ off in
      (cc)
]

over_stands : (hears : Bool) (seats : List Seat) (links : Slab Link) (tokens : List ℕ) (w after : Watched) (socket q m : ℕ) → socket ≤ 1 → hears ≡ true → PassesOver hears seats links tokens w after → Stands socket q m w → (p : ℕ) × Stands socket p m after
over_stands hears seats links [] w after socket q m small on p s = (q, subst (λ (x : Watched). Stands socket q m x) (sym p) s)
over_stands hears seats links (token ∷ tokens) w after socket q m small on p s =
    let far : token ≡ socket → ⊥ = λ e. vacant_far hears seats links socket small on (subst (λ n. IsVacant hears seats links (place_at n)) e p.1.0) in
    let next = taken_stands w token socket q m p.0 far s in
    over_stands hears seats links tokens (without_token w) after socket next.0 m small on p.1.1 next.1

over_turns : (hears : Bool) (seats : List Seat) (links : Slab Link) (tokens : List ℕ) (w after : Watched) → PassesOver hears seats links tokens w after → after.turns ≤ w.turns
over_turns hears seats links [] w after p = omega (arith, ap (λ (x : Watched). x.turns) p)
over_turns hears seats links (token ∷ tokens) w after p = omega (arith, over_turns hears seats links tokens (without_token w) after p.1.1, (turn_used w token p.0).1)

over_order : (hears : Bool) (seats : List Seat) (links : Slab Link) (tokens : List ℕ) (w after : Watched) → PassesOver hears seats links tokens w after → InOrder w → InOrder after
over_order hears seats links [] w after p o = subst InOrder (sym p) o
over_order hears seats links (token ∷ tokens) w after p o = over_order hears seats links tokens (without_token w) after p.1.1 (ordered_taken w token p.0 o)

passes_runs : (a b : Edge) → Passes a b → Runs a [] b
passes_runs a b p =
    let same = passes_same a b p in
    awake_runs a b [] 0 (costs_none 0) (omega (arith, over_turns a.hears a.seats a.links p.0 a.round.watch b.round.watch p.1.0)) (ap (λ (x : Edge). x.hears) same)
    (λ s small on q m st. inr (over_stands a.hears a.seats a.links p.0 a.round.watch b.round.watch s q m small on p.1.0 st))
    (λ o low. order_from a b o (over_order a.hears a.seats a.links p.0 a.round.watch b.round.watch p.1.0) (λ x. subst LinksLow (sym (ap (λ (e : Edge). e.links) same)) x))

-- A call that looks at a source in its turn.
takes_turns : (r after : Round) (token : ℕ) → Takes r token after → 1 + after.watch.turns ≤ r.watch.turns
takes_turns r after token t = let used = turn_used r.watch token t.0 in omega (arith, used.0, used.1, ap (λ (x : Round). x.watch.turns) t.1)

takes_stands : (r after : Round) (token socket q m : ℕ) → Takes r token after → (token ≡ socket → ⊥) → Stands socket q m r.watch → (p : ℕ) × Stands socket p m after.watch
takes_stands r after token socket q m t far s =
    let next = taken_stands r.watch token socket q m t.0 far s in
    (next.0, subst (λ (x : Round). Stands socket next.0 m x.watch) (sym t.1) next.1)

takes_order : (r after : Round) (token : ℕ) → Takes r token after → InOrder r.watch → InOrder after.watch
takes_order r after token t o = subst (λ (x : Round). InOrder x.watch) (sym t.1) (ordered_taken r.watch token t.0 o)

take_runs : (a b : Edge) (x : Call) (token : ℕ) → is_pause x ≡ false → looks_by x ≡ 1 → ((socket : ℕ) → is_look socket x ≡ (token == socket)) → Takes a.round token b.round → b.hears ≡ a.hears → b.links ≡ a.links → Runs a (x ∷ []) b
take_runs a b x token awake one look t h l =
    awake_runs a b (x ∷ []) 1 ((awake, tt), omega (arith, one)) (takes_turns a.round b.round token t) h
    (λ s small on q m st. elim (eqb_tells token s) [
      | inl here ↦ inl (ap (λ (k : Bool). k || false) (look s ∙ here.0))
      | inr away ↦ inr (takes_stands a.round b.round token s q m t away.1 st)
    ])
    (λ o low. order_from a b o (takes_order a.round b.round token t) (λ k. subst LinksLow (sym l) k))

-- The listener, in its turn or out of it.
tries_turns : {late : Type 0} (r after : Round) (token : ℕ) → TakesOrTries late r token after → after.watch.turns ≤ r.watch.turns
tries_turns {late} r after token t = elim t [
  | inl taken ↦ omega (arith, takes_turns r after token taken)
  | inr tried ↦ omega (arith, ap (λ (x : Round). x.watch.turns) tried.1.1)
]

tries_stands : {late : Type 0} (r after : Round) (token socket q m : ℕ) → TakesOrTries late r token after → (token ≡ socket → ⊥) → Stands socket q m r.watch → (p : ℕ) × Stands socket p m after.watch
tries_stands {late} r after token socket q m t far s = elim t [
  | inl taken ↦ takes_stands r after token socket q m taken far s
  | inr tried ↦ (q, subst (λ (x : Round). Stands socket q m x.watch) (sym tried.1.1) s)
]

tries_order : {late : Type 0} (r after : Round) (token : ℕ) → TakesOrTries late r token after → InOrder r.watch → InOrder after.watch
tries_order {late} r after token t o = elim t [
  | inl taken ↦ takes_order r after token taken o
  | inr tried ↦ subst (λ (x : Round). InOrder x.watch) (sym tried.1.1) o
]

tries_low : {late : Type 0} (r after : Round) (token : ℕ) → TakesOrTries late r token after → InOrder r.watch → token < 250
tries_low {late} r after token t o = elim t [
  | inl taken ↦ taken_low r.watch token taken.0 o
  | inr tried ↦ omega (arith, tried.1.0)
]

-- What marks a token or leaves what is ready.
record Keeps_ready (w after : Watched) (low : Type 0) : Type 0 where
  turns : after.turns ≡ w.turns
  stands : (socket q m : ℕ) → Stands socket q m w → Stands socket q m after
  order : low → InOrder w → InOrder after

kept_ready : (w : Watched) (low : Type 0) → Keeps_ready w w low
kept_ready w low = record { turns = refl; stands = λ s q m st. st; order = λ l o. o }

kept_mark : (w : Watched) (token : ℕ) (low : Type 0) → (low → token < 250) → Keeps_ready w (mark_in w token) low
kept_mark w token low few = record {
  turns = refl;
  stands = λ s q m st. marked_stands w token s q m st;
  order = λ l o. order_marked w token o (few l);
}

kept_held : (w : Watched) (token : ℕ) (low : Type 0) → (low → token < 250) → Keeps_ready w (hold_in w token) low
kept_held w token low few = record { turns = refl; stands = λ s q m st. st; order = λ l o. held_order w token o (few l) }

kept_recalled : (w : Watched) (low : Type 0) → Keeps_ready w (recalled w) low
kept_recalled w low = record {
  turns = refl;
  stands = λ s q m st. (recalled_at w q s st.0, st.1);
  order = λ l o. recalled_order w o;
}

kept_closed : (calls : List Call) (w : Watched) (low : Type 0) → Keeps_ready w (recalled_by w calls) low
kept_closed [] w low = kept_ready w low
kept_closed (x ∷ xs) w low = kept_recalled w low

kept_missing : (cause : NoSocket) (w : Watched) (token : ℕ) (low : Type 0) → (low → token < 250) → Keeps_ready w (missing_in cause token w) low
kept_missing no_socket.PortTaken w token low few = kept_mark w token low few
kept_missing no_socket.Full w token low few = kept_held w token low few
kept_missing no_socket.Failed w token low few = kept_mark w token low few

kept_choice : (b : Bool) (w : Watched) (token : ℕ) (low : Type 0) → (low → token < 250) → Keeps_ready w (if b then mark_in w token else w) low
kept_choice true w token low few = kept_mark w token low few
kept_choice false w token low few = kept_ready w low

kept_again : (answer : Accepted) (s : ℕ) (w : Watched) → Keeps_ready w (again_behind answer 1 s w) (Unit {0})
kept_again accepted.Nothing s w = kept_ready w (Unit {0})
kept_again (accepted.Connection peer) s w = kept_choice (s == 250) w 1 (Unit {0}) (λ l. omega arith)
kept_again accepted.Aborted s w = kept_mark w 1 (Unit {0}) (λ l. omega arith)
kept_again accepted.Failed s w = kept_ready w (Unit {0})

accept_runs : {late : Type 0} (a b : Edge) (s : ℕ) (answer : Accepted) (taken : Round) → TakesOrTries late a.round 1 taken → b.round ≡ record taken { watch = again_behind answer 1 s taken.watch } → b.hears ≡ a.hears → b.links ≡ a.links → Runs a (call.accept 1 s answer ∷ []) b
accept_runs {late} a b s answer taken t e h l =
    let k = kept_again answer s taken.watch in
    awake_runs a b (call.accept 1 s answer ∷ []) 0 ((refl, tt), omega arith)
    (omega (arith, k.turns, tries_turns {late = late} a.round taken 1 t, ap (λ (x : Round). x.watch.turns) e)) h
    (λ p small on q m st. elim (eqb_tells 1 p) [
      | inl here ↦ inl (ap (λ (i : Bool). i || false) here.0)
      | inr away ↦
          let next = tries_stands {late = late} a.round taken 1 p q m t away.1 st in
          inr (next.0, subst (λ (x : Round). Stands p next.0 m x.watch) (sym e) (k.stands p next.0 m next.1))
    ])
    (λ o low. order_from a b o (λ x. subst (λ (y : Round). InOrder y.watch) (sym e) (k.order tt (tries_order {late = late} a.round taken 1 t x))) (λ x. subst LinksLow (sym l) x))

-- A wait: where a source is ready, all turns were used, so that a wait is left.
wait_runs : (a b : Edge) (pause : Option ℕ) (ok : Bool) → next_token a.round.watch ≡ None → b.round.watch ≡ renewed a.round.watch → b.hears ≡ a.hears → b.links ≡ a.links → Runs a (call.wait pause ok ∷ []) b
wait_runs a b pause ok last e h l =
    let turns : b.round.watch.turns ≡ 64 = ap (λ (w : Watched). w.turns) e in
    record {
      hears = h;
      within = λ rest w. subst (λ (n : ℕ). WithinTurns n rest) turns w;
      leads = λ s small on rest q m st go.
          let used = all_turns_used a.round.watch s q last st.0 in
          let soon = st.1 in
          (omega (arith, used), go q (m - 1) (subst (λ (w : Watched). Stands s q (m - 1) w) (sym e) (st.0, omega (arith, used))));
      order = λ o low. order_from a b o (λ x. subst InOrder (sym e) (x.0, x.1)) (λ x. subst LinksLow (sym l) x);
      seen = λ s small on o low rest more go. (tt, more);
    }

-- A socket is told to be ready.
told_here : (told : Bool) (socket token : ℕ) (rest : List Call) → (token == socket) ≡ told → (token ≡ socket → IsSeenSoon socket 4 rest) → Either told (IsSeenSoon socket 4 rest) (Unit {0})
told_here true socket token rest e p = elim (eqb_tells token socket) [
  | inl here ↦ p here.1
  | inr away ↦ let wrong = away.0 in (cc)
]
told_here false socket token rest e p = tt

told_runs : (a b : Edge) (answer : Option ℕ) → Told a.round answer b.round → b.hears ≡ a.hears → b.links ≡ a.links → Runs a (call.ready answer ∷ []) b
told_runs a b None t h l = record {
  hears = h;
  within = λ rest w. (omega arith, subst (λ (k : ℕ). WithinTurns k rest) (omega (arith, ap (λ (x : Round). x.watch.turns) t)) w);
  leads = λ s small on rest q m st go. go q m (subst (λ (x : Round). Stands s q m x.watch) (sym t) st);
  order = λ o low. order_from a b o (λ x. subst (λ (y : Round). InOrder y.watch) (sym t) x) (λ x. subst LinksLow (sym l) x);
  seen = λ s small on o low rest more go. (tt, more);
}
told_runs a b (Some token) t h l = record {
  hears = h;
  within = λ rest w. (omega arith, subst (λ (k : ℕ). WithinTurns k rest) (omega (arith, ap (λ (x : Round). x.watch.turns) t)) w);
  leads = λ s small on rest q m st go. go q m (subst (λ (x : Round). Stands s q m x.watch) (sym t) (marked_stands a.round.watch token s q m st));
  order = λ o low. order_from a b o (λ x. subst (λ (y : Round). InOrder y.watch) (sym t) (order_marked a.round.watch token x low.0)) (λ x. subst LinksLow (sym l) x);
  seen = λ s small on o low rest more go. (
    told_here (token == s) s token rest refl
        (λ e.
        let at = marked_at a.round.watch.ready s (o.once, o.below) (subst (λ n. n < 250) e low.0) in
        let early : at.0 < 250 = at.1.1 in
        go at.0 4 (subst (λ (x : Round). Stands s at.0 4 x.watch) (sym t) (subst (λ n. Stands s at.0 4 (mark_in a.round.watch n)) (sym e) (at.1.0, omega arith)))),
    more,
  );
}

-- Whether clients are heard and the links, which quiet calls leave.
abbrev beside : Edge → (Bool × Slab Link)
beside e = (e.hears, e.links)

accept_beside : (a : Edge) (s : ℕ) (answer : Accepted) (b : Edge) → QuietAccept a s answer b → beside b ≡ beside a
accept_beside a s accepted.Nothing b p = ap beside p
accept_beside a s accepted.Aborted b p = ap beside p
accept_beside a s accepted.Failed b p = ap beside p
accept_beside a s (accepted.Connection peer) b p = ap beside p.1.1

read_beside : (a : Edge) (s : ℕ) (answer : Part) (b : Edge) → QuietRead a s answer b → beside b ≡ beside a
read_beside a s part.Nothing b p = ap beside p
read_beside a s (part.Bytes len) b p = absurd p
read_beside a s part.End b p = ap beside p.3.1.1.1.1
read_beside a s part.Failed b p = absurd p

by_both : (a b : Edge) → beside b ≡ beside a → (b.hears ≡ a.hears) × (b.links ≡ a.links)
by_both a b p = (ap (λ (x : Bool × Slab Link). x.0) p, ap (λ (x : Bool × Slab Link). x.1) p)

call_runs : (wake : Option ℕ) (late : Type 0) (a : Edge) (x : Call) (b : Edge) → QuietCall wake a x b → InTurn late a.round x b.round → Runs a (x ∷ []) b
call_runs wake late a (call.bind s addr port answer) b p i = absurd p
call_runs wake late a (call.connect s addr port answer) b p i = absurd p
call_runs wake late a (call.send s bytes answer) b p i = absurd p
call_runs wake late a (call.send_to s addr port bytes answer) b p i = absurd p
call_runs wake late a (call.receive s answer bytes) b p i =
    let k = by_both a b (ap beside p.1) in take_runs a b (call.receive s answer bytes) s refl refl (λ n. refl) i k.0 k.1
call_runs wake late a (call.listen s addr port answer) b p i = absurd p
call_runs wake late a (call.accept l s answer) b p i =
    let k = by_both a b (accept_beside a s answer b p) in
    subst (λ (n : ℕ). Runs a (call.accept n s answer ∷ []) b) (sym i.0) (accept_runs {late = late} a b s answer i.1.0 i.1.1.0 i.1.1.1 k.0 k.1)
call_runs wake late a (call.begin s addr port server to answer) b p i = absurd p
call_runs wake late a (call.stands s answer) b p i =
    let k = by_both a b (ap beside p.1) in take_runs a b (call.stands s answer) s refl refl (λ n. refl) i k.0 k.1
call_runs wake late a (call.read s answer bytes) b p i =
    let k = by_both a b (read_beside a s answer b p) in take_runs a b (call.read s answer bytes) s refl refl (λ n. refl) i k.0 k.1
call_runs wake late a (call.write s bytes answer) b p i =
    let k = by_both a b (ap beside p.3.1.1.1.1) in still_runs a b (call.write s bytes answer ∷ []) ((refl, tt), omega arith) i.1 k.0 k.1
call_runs wake late a (call.close s) b p i =
    let k = by_both a b (ap beside p.1) in still_runs a b (call.close s ∷ []) ((refl, tt), omega arith) i k.0 k.1
call_runs wake late a (call.wait pause answer) b p i =
    let k = by_both a b (ap beside p.1) in wait_runs a b pause answer i.0 (ap (λ (x : Round). x.watch) i.1) k.0 k.1
call_runs wake late a (call.ready answer) b p i =
    let k = by_both a b (ap beside p) in told_runs a b answer i.1 k.0 k.1
call_runs wake late a (call.now answer) b p i =
    let k = by_both a b (ap beside p) in still_runs a b (call.now answer ∷ []) ((refl, tt), omega arith) i.1 k.0 k.1
call_runs wake late a (call.print bytes ok) b p i =
    let k = by_both a b (ap beside p.1) in still_runs a b (call.print bytes ok ∷ []) ((refl, tt), omega arith) i k.0 k.1

quiet_turns : (wake : Option ℕ) (a : Edge) (xs : List Call) (b : Edge) → Quiet wake a xs b → Runs a xs b
quiet_turns wake a [] b q = passes_runs a b q
quiet_turns wake a (x ∷ xs) b q =
    let at : Edge = q.1.0.0 in
    let one : Runs a (x ∷ []) q.0 = runs_both a at q.0 [] (x ∷ []) (passes_runs a at q.1.0.1.0) (call_runs wake (IsLate at) at x q.0 q.1.0.1.1.0 q.1.0.1.1.1) in
    runs_both a q.0 b (x ∷ []) xs one (quiet_turns wake q.0 xs b q.1.1)

-- The calls of looks.
abbrev cost_of : Place → ℕ
cost_of place.Datagrams = 1
cost_of place.Listener = 0
cost_of (place.Seat index) = 1
cost_of (place.Link key) = 1

one_call : (n : ℕ) (x : Call) → is_pause x ≡ false → looks_by x ≤ n → Costs n (x ∷ [])
one_call n x p l = ((p, tt), omega (arith, l))

cost_as : (n : ℕ) (calls : List Call) (x : Call) → calls ≡ x ∷ [] → is_pause x ≡ false → looks_by x ≤ n → Costs n calls
cost_as n calls x e p l = costs_as n calls (x ∷ []) e (one_call n x p l)

requests_cost : (hears : Bool) (calls : List Call) (gave : Step) (buffer : List ℕ) → HearsRequests hears calls gave buffer → Costs 1 calls
requests_cost true calls gave buffer h = cost_as 1 calls _ h.1.0 refl (omega arith)
requests_cost false calls gave buffer h = costs_as 1 calls [] h.0 (costs_none 1)

accept_cost : (answer : Accepted) (old : List Seat) (next : ℕ) (clock : Option ℕ) (calls : List Call) (gave : Step) (new : List Seat) (retry : Option ℕ) → AcceptGives answer old next clock calls gave new retry → Costs 0 calls × LooksAtIt 1 calls
accept_cost accepted.Nothing old next clock calls gave new retry h = (cost_as 0 calls _ h.1.0 refl (omega arith), ap (list_any (is_look 1)) h.1.0)
accept_cost accepted.Aborted old next clock calls gave new retry h = (cost_as 0 calls _ h.1.0 refl (omega arith), ap (list_any (is_look 1)) h.1.0)
accept_cost accepted.Failed old next clock calls gave new retry h = (cost_as 0 calls _ h.1.0 refl (omega arith), ap (list_any (is_look 1)) h.1.0)
accept_cost (accepted.Connection peer) old next clock calls gave new retry h = elim h [
  | inl kept ↦ (cost_as 0 calls _ kept.2.1.1.0 refl (omega arith), ap (list_any (is_look 1)) kept.2.1.1.0)
  | inr closed ↦ (costs_as 0 calls _ closed.1.0 ((refl, (refl, tt)), omega arith), ap (list_any (is_look 1)) closed.1.0)
]

accepts_cost : (hears : Bool) (old : List Seat) (next : ℕ) (clock before : Option ℕ) (calls : List Call) (gave : Step) (new : List Seat) (retry : Option ℕ) → Accepts hears old next clock before calls gave new retry → Costs 0 calls × (hears ≡ true → LooksAtIt 1 calls)
accepts_cost true old next clock before calls gave new retry h = let c = accept_cost h.0 old next clock calls gave new retry h.1 in (c.0, λ e. c.1)
accepts_cost false old next clock before calls gave new retry h = (costs_as 0 calls [] h.0 (costs_none 0), λ e. cc)

requests_look : (hears : Bool) (calls : List Call) (gave : Step) (buffer : List ℕ) → hears ≡ true → HearsRequests hears calls gave buffer → LooksAtIt 0 calls
requests_look true calls gave buffer e h = ap (list_any (is_look 0)) h.1.0
requests_look false calls gave buffer e h = cc

flush_cost : (empty : Bool) (socket : ℕ) (bytes : List ℕ) (flush : Option ℕ) → Costs 0 (if empty then [] else call.write socket bytes flush ∷ [])
flush_cost true socket bytes flush = costs_none 0
flush_cost false socket bytes flush = ((refl, tt), omega arith)

reads_cost : (rest : Option (List ℕ)) (socket : ℕ) (conn : Conn) (flushed calls : List Call) (gave : Step) (buffer : List ℕ) (new : Seat) → Costs 0 flushed → ReadsBehind socket conn rest flushed calls gave buffer new → Costs 1 calls
reads_cost None socket conn flushed calls gave buffer new f r = costs_as 1 calls flushed r.0 (costs_more 0 1 flushed (omega arith) f)
reads_cost (Some rest) socket conn flushed calls gave buffer new f r = costs_as 1 calls _ r.1.0 (costs_both 0 1 flushed _ f ((refl, tt), omega arith))

conn_cost : (failed : Bool) (socket : ℕ) (conn : Conn) (waiting : List ℕ) (calls : List Call) (gave : Step) (buffer : List ℕ) (new : Seat) → LooksAtConn socket conn waiting failed calls gave buffer new → Costs 1 calls
conn_cost true socket conn waiting calls gave buffer new l = costs_as 1 calls [] l.0 (costs_none 1)
conn_cost false socket conn waiting calls gave buffer new l = reads_cost _ socket conn _ calls gave buffer new (flush_cost (length waiting == 0) socket waiting l.0) l.1

seat_cost : (conn : Option Conn) (socket : ℕ) (seat : Seat) (calls : List Call) (id : ℕ) (gave : Step) (buffer : List ℕ) (new : Seat) → LooksAtSeat socket seat conn calls id gave buffer new → Costs 1 calls
seat_cost None socket seat calls id gave buffer new l = costs_as 1 calls [] l.0 (costs_none 1)
seat_cost (Some conn) socket seat calls id gave buffer new l = conn_cost conn.failed socket conn seat.backlog calls gave buffer new l.1

goes_seat_cost : (gave : Step) (index : ℕ) (after : Seat) (old : List Seat) (calls : List Call) (new : List Seat) → GoesSeat gave index after old calls new → Costs 0 calls
goes_seat_cost step.Nothing index after old calls new h = costs_as 0 calls [] h.0 (costs_none 0)
goes_seat_cost (step.Event found) index after old calls new h = costs_as 0 calls [] h.0 (costs_none 0)
goes_seat_cost (step.Last found) index after old calls new h = cost_as 0 calls _ h.0 refl (omega arith)

hears_seat_cost : (index : ℕ) (old : List Seat) (calls : List Call) (id : ℕ) (gave : Step) (buffer : List ℕ) (new : List Seat) → HearsSeat index old calls id gave buffer new → Costs 1 calls
hears_seat_cost index old calls id gave buffer new h = elim h [
  | inl none ↦ costs_as 1 calls [] none.0 (costs_none 1)
  | inr there ↦
      let l = there.1 in
      costs_as 1 calls _ l.whole (costs_both 1 0 l.heard l.closed (seat_cost there.0.conn (seat_socket index) there.0 l.heard id gave buffer l.after l.looks) (goes_seat_cost gave index l.after old l.closed new l.goes))
]

way_cost : (way : Way) (socket : ℕ) (server : List ℕ) (calls : List Call) (gave : Step) (buffer : List ℕ) → HearsWay socket server way calls gave buffer → Costs 1 calls
way_cost Udp socket server calls gave buffer h = cost_as 1 calls _ h.1.0 refl (omega arith)
way_cost Connecting socket server calls gave buffer h = cost_as 1 calls _ h.1.0 refl (omega arith)
way_cost Connected socket server calls gave buffer h = cost_as 1 calls _ h.1.0 refl (omega arith)
way_cost (Missing cause) socket server calls gave buffer h = costs_as 1 calls [] h.0 (costs_none 1)

close_cost : (way : Way) (socket : ℕ) → Costs 0 (close_calls socket way)
close_cost Udp socket = ((refl, tt), omega arith)
close_cost Connecting socket = ((refl, tt), omega arith)
close_cost Connected socket = ((refl, tt), omega arith)
close_cost (Missing cause) socket = costs_none 0

goes_cost : (gave : Step) (key : ℕ) (link : Link) (old : Slab Link) (calls : List Call) (new : Slab Link) → Goes gave key link old calls new → Costs 0 calls
goes_cost step.Nothing key link old calls new h = costs_as 0 calls [] h.0 (costs_none 0)
goes_cost (step.Event found) key link old calls new h = costs_as 0 calls [] h.0 (costs_none 0)
goes_cost (step.Last found) key link old calls new h = costs_as 0 calls _ h.0 (close_cost link.way (link_socket key))

link_cost : (key : ℕ) (old : Slab Link) (calls : List Call) (id : ℕ) (gave : Step) (buffer : List ℕ) (new : Slab Link) → LooksAt key old calls id gave buffer new → Costs 1 calls
link_cost key old calls id gave buffer new h = elim h [
  | inl none ↦ costs_as 1 calls [] none.1.0 (costs_none 1)
  | inr there ↦
      let l = there.1 in
      costs_as 1 calls _ l.whole (costs_both 1 0 l.heard l.closed (way_cost there.0.way (link_socket key) there.0.server l.heard gave buffer l.hears) (goes_cost gave key there.0 old l.closed new l.goes))
]

looks_cost : (source : Place) (a : Edge) (calls : List Call) (id : ℕ) (gave : Step) (buffer : List ℕ) (b : Edge) → Looks source a calls id gave buffer b → Costs (cost_of source) calls
looks_cost place.Datagrams a calls id gave buffer b h = requests_cost a.hears calls gave buffer h.0
looks_cost place.Listener a calls id gave buffer b h = (accepts_cost a.hears a.seats a.next_conn a.clock a.retry calls gave b.seats b.retry h.0).0
looks_cost (place.Seat index) a calls id gave buffer b h = hears_seat_cost index a.seats calls id gave buffer b.seats h.0
looks_cost (place.Link key) a calls id gave buffer b h = link_cost key a.links calls id gave buffer b.links h.0

-- A link changes at its place, or goes.
low_update : (old new : Slab Link) (key : ℕ) (slot : Option Link) → LinksLow old → ((link : Link) → slot ≡ Some link → link_socket key < 250) → Updates old new key slot → LinksLow new
low_update old new key slot o few u = λ other link at. elim (eqb_tells other key) [
  | inl here ↦
      let is : slot ≡ Some link = sym u.changed ∙ (ap (λ k. get new k) (sym here.1) ∙ at) in
      subst (λ k. link_socket k < 250) (sym here.1) (few link is)
  | inr away ↦ o other link (sym (u.others other away.1) ∙ at)
]

rises_low : (way : Way) (key : ℕ) (link : Link) (old new : Slab Link) → link_socket key < 250 → RisesWay way key link old new → LinksLow old → LinksLow new
rises_low Udp key link old new few r o = subst LinksLow (sym r) o
rises_low Connecting key link old new few r o = low_update old new key _ o (λ l e. few) r
rises_low Connected key link old new few r o = subst LinksLow (sym r) o
rises_low (Missing cause) key link old new few r o = subst LinksLow (sym r) o

goes_low : (gave : Step) (key : ℕ) (link : Link) (old : Slab Link) (calls : List Call) (new : Slab Link) → link_socket key < 250 → Goes gave key link old calls new → LinksLow old → LinksLow new
goes_low step.Nothing key link old calls new few g o = subst LinksLow (sym g.1) o
goes_low (step.Event found) key link old calls new few g o = rises_low link.way key link old new few g.1 o
goes_low (step.Last found) key link old calls new few g o = low_update old new key None o (λ l e. cc) g.1

link_low : (key : ℕ) (old : Slab Link) (calls : List Call) (id : ℕ) (gave : Step) (buffer : List ℕ) (new : Slab Link) → LooksAt key old calls id gave buffer new → LinksLow old → LinksLow new
link_low key old calls id gave buffer new h o = elim h [
  | inl none ↦ subst LinksLow (sym none.1.1.1) o
  | inr there ↦ let l = there.1 in goes_low gave key there.0 old l.closed new (o key there.0 l.there) l.goes o
]

looks_low : (source : Place) (a : Edge) (calls : List Call) (id : ℕ) (gave : Step) (buffer : List ℕ) (b : Edge) → Looks source a calls id gave buffer b → (b.hears ≡ a.hears) × (LinksLow a.links → LinksLow b.links)
looks_low place.Datagrams a calls id gave buffer b h = (ap (λ (e : Edge). e.hears) h.1.1, λ o. subst LinksLow (sym (ap (λ (e : Edge). e.links) h.1.1)) o)
looks_low place.Listener a calls id gave buffer b h = (ap (λ (e : Edge). e.hears) h.1.1, λ o. subst LinksLow (sym (ap (λ (e : Edge). e.links) h.1.1)) o)
looks_low (place.Seat index) a calls id gave buffer b h = (ap (λ (e : Edge). e.hears) h.1, λ o. subst LinksLow (sym (ap (λ (e : Edge). e.links) h.1)) o)
looks_low (place.Link key) a calls id gave buffer b h = (ap (λ (e : Edge). e.hears) h.1, link_low key a.links calls id gave buffer b.links h.0)

-- A look at a socket on which clients are heard makes its call.
looks_see : (socket : ℕ) (a : Edge) (calls : List Call) (id : ℕ) (gave : Step) (buffer : List ℕ) (b : Edge) → socket ≤ 1 → a.hears ≡ true → Looks (place_at socket) a calls id gave buffer b → LooksAtIt socket calls
looks_see socket a calls id gave buffer b small on h = elim (eqb_tells socket 0) [
  | inl zeroth ↦
      let l = subst (λ (n : ℕ). Looks (place_at n) a calls id gave buffer b) zeroth.1 h in
      subst (λ (n : ℕ). LooksAtIt n calls) (sym zeroth.1) (requests_look a.hears calls gave buffer on l.0)
  | inr more ↦
      let one : socket ≡ 1 = omega (arith, small, more.1) in
      let l = subst (λ (n : ℕ). Looks (place_at n) a calls id gave buffer b) one h in
      subst (λ (n : ℕ). LooksAtIt n calls) (sym one) ((accepts_cost a.hears a.seats a.next_conn a.clock a.retry calls gave b.seats b.retry l.0).1 on)
]

-- What an event leaves ready.
kept_event : (gave : Step) (token : ℕ) (w : Watched) (low : Type 0) → (low → token < 250) → Keeps_ready w (again_if gave token w) low
kept_event step.Nothing token w low few = kept_ready w low
kept_event (step.Event found) token w low few = kept_mark w token low few
kept_event (step.Last found) token w low few = kept_ready w low

cost_most : (source : Place) → cost_of source ≤ 1
cost_most place.Datagrams = omega arith
cost_most place.Listener = omega arith
cost_most (place.Seat index) = omega arith
cost_most (place.Link key) = omega arith

look_turns : {late : Type 0} (r taken : Round) (token : ℕ) → TakesOrTries late r token taken → cost_of (place_at token) + taken.watch.turns ≤ r.watch.turns
look_turns {late} r taken token t = elim t [
  | inl it ↦ let most = cost_most (place_at token) in omega (arith, takes_turns r taken token it)
  | inr tried ↦ subst (λ (n : ℕ). cost_of (place_at n) + taken.watch.turns ≤ r.watch.turns) (sym tried.1.0) (omega (arith, ap (λ (x : Round). x.watch.turns) tried.1.1))
]

finds_runs : (a : Edge) (calls : List Call) (e : ModelEvent) (b : Edge) → Finds a calls e b → Runs a calls b
finds_runs a calls e b f =
    let taken : Round = f.turn.0 in
    let t : TakesOrTries (IsLate a) a.round f.token taken = f.turn.1.0 in
    let beyond = looks_low (place_at f.token) a calls f.id f.gave f.buffer b f.looks in
    let k = kept_event f.gave f.token taken.watch (InOrder a.round.watch) (λ o. tries_low {late = IsLate a} a.round taken f.token t o) in
    awake_runs a b calls (cost_of (place_at f.token)) (looks_cost (place_at f.token) a calls f.id f.gave f.buffer b f.looks)
    (omega (arith, k.turns, look_turns {late = IsLate a} a.round taken f.token t, ap (λ (x : Round). x.watch.turns) f.turn.1.1)) beyond.0
    (λ s small on q m st. elim (eqb_tells f.token s) [
      | inl here ↦ inl (looks_see s a calls f.id f.gave f.buffer b small on (subst (λ (n : ℕ). Looks (place_at n) a calls f.id f.gave f.buffer b) here.1 f.looks))
      | inr away ↦
          let next = tries_stands {late = IsLate a} a.round taken f.token s q m t away.1 st in
          inr (next.0, subst (λ (x : Round). Stands s next.0 m x.watch) (sym f.turn.1.1) (k.stands s next.0 m next.1))
    ])
    (λ o low. order_from a b o
    (λ x. subst (λ (y : Round). InOrder y.watch) (sym f.turn.1.1) (k.order x (tries_order {late = IsLate a} a.round taken f.token t x)))
    beyond.1)

ticks_runs : (wake : Option ℕ) (a : Edge) (calls : List Call) (e : ModelEvent) (b : Edge) → Ticks wake a calls e b → Runs a calls b
ticks_runs wake a calls e b t =
    let turns = ap (λ (x : Edge). x.round.watch.turns) t.left in
    let ready = ap (λ (x : Edge). x.round.watch.ready) t.left in
    subst (λ (cs : List Call). Runs a cs b) (sym t.none)
    (awake_runs a b [] 0 (costs_none 0) (omega (arith, turns)) (ap (λ (x : Edge). x.hears) t.left)
    (λ s small on q m st. let soon = st.1 in inr (q, (ap (λ (l : List ℕ). slice_get l q) ready ∙ st.0, omega (arith, turns))))
    (λ o low. order_from a b o (λ x. subst (λ (y : Edge). InOrder y.round.watch) (sym t.left) (x.0, x.1)) (λ x. subst LinksLow (sym (ap (λ (y : Edge). y.links) t.left)) x)))

heard_turns : (wake : Option ℕ) (e : ModelEvent) (a : Edge) (calls : List Call) (b : Edge) → Hears wake e a calls b → Runs a calls b
heard_turns wake e a calls b h =
    let last : Runs h.between h.last h.after = elim h.heard [
      | inl found ↦ finds_runs h.between h.last e h.after found
      | inr tick ↦ ticks_runs wake h.between h.last e h.after tick
    ] in
    let all : Runs a (h.before ++ h.last) h.after = runs_both a h.between h.after h.before h.last (quiet_turns wake a h.before h.between h.quiet) last in
    runs_left a h.after b calls (subst (λ (cs : List Call). Runs a cs h.after) (sym h.whole) all)
    (ap (λ (x : Edge). x.round) h.left) (ap (λ (x : Edge). x.hears) h.left) (ap (λ (x : Edge). x.links) h.left)

gave_turns : (wake : Option ℕ) (said : Answer) (a : Edge) (calls : List Call) (b : Edge) → Gave wake said a calls b → Runs a calls b
gave_turns wake (history.gave e) a calls b g = heard_turns wake e a calls b g
gave_turns wake history.ended a calls b g = absurd g
gave_turns wake history.failed a calls b g =
    runs_left a g.between b calls (quiet_turns wake a calls g.between g.quiet)
    (ap (λ (x : Edge). x.round) g.left) (ap (λ (x : Edge). x.hears) g.left) (ap (λ (x : Edge). x.links) g.left)
gave_turns wake (history.bad number) a calls b g = absurd g

none_turns : (a : Edge) (calls : List Call) (b : Edge) → NoneCame a calls b → Runs a calls b
none_turns a calls b g =
    runs_left a g.between b calls (quiet_turns None a calls g.between g.quiet)
    (ap (λ (x : Edge). x.round) g.left) (ap (λ (x : Edge). x.hears) g.left) (ap (λ (x : Edge). x.links) g.left)

-- Actions.
kept_runs : (a b : Edge) (calls : List Call) (low : Type 0) → Costs 0 calls → Keeps_ready a.round.watch b.round.watch low → b.hears ≡ a.hears → (IsInOrder a → AreLow calls → low × LinksLow b.links) → Runs a calls b
kept_runs a b calls low c k h few =
    awake_runs a b calls 0 c (omega (arith, k.turns)) h
    (λ s small on q m st. inr (q, k.stands s q m st))
    (λ o l. let f = few o l in order_from a b o (λ x. k.order f.0 x) (λ x. f.1))

kept_as : (w after x : Watched) (low : Type 0) → after ≡ x → Keeps_ready w x low → Keeps_ready w after low
kept_as w after x low e k = subst (λ (y : Watched). Keeps_ready w y low) (sym e) k

replies_cost : (addr : List ℕ) (port : ℕ) (bytes : List ℕ) (hears : Bool) (calls : List Call) → Replies addr port bytes hears calls → Costs 0 calls
replies_cost addr port bytes true calls r = cost_as 0 calls _ r.1 refl (omega arith)
replies_cost addr port bytes false calls r = costs_as 0 calls [] r (costs_none 0)

put_cost : (empty : Bool) (socket : ℕ) (bytes : List ℕ) (said : Option ℕ) → Costs 0 (if empty then call.write socket bytes said ∷ [] else [])
put_cost true socket bytes said = ((refl, tt), omega arith)
put_cost false socket bytes said = costs_none 0

puts_conn_cost : (failed : Bool) (socket : ℕ) (seat : Seat) (conn : Conn) (bytes : List ℕ) (calls : List Call) (new : Seat) → PutsConn failed socket seat conn bytes calls new → Costs 0 calls
puts_conn_cost true socket seat conn bytes calls new p = costs_as 0 calls [] p.0 (costs_none 0)
puts_conn_cost false socket seat conn bytes calls new p = costs_as 0 calls _ p.1.0 (put_cost (length seat.backlog == 0) socket bytes p.0)

puts_seat_cost : (conn : Option Conn) (socket : ℕ) (seat : Seat) (bytes : List ℕ) (calls : List Call) (new : Seat) → PutsSeat conn socket seat bytes calls new → Costs 0 calls
puts_seat_cost None socket seat bytes calls new p = costs_as 0 calls [] p.0 (costs_none 0)
puts_seat_cost (Some conn) socket seat bytes calls new p = puts_conn_cost conn.failed socket seat conn bytes calls new p

udp_cost : (o : Opening) (socket : ℕ) (from : List ℕ) (port : ℕ) (server query : List ℕ) → Costs 0 (udp_calls socket from port server query o)
udp_cost (opening.Refused cause) socket from port server query = ((refl, tt), omega arith)
udp_cost opening.Unconnected socket from port server query = ((refl, (refl, (refl, tt))), omega arith)
udp_cost opening.Unsent socket from port server query = ((refl, (refl, (refl, (refl, tt)))), omega arith)
udp_cost opening.Sent socket from port server query = ((refl, (refl, (refl, tt))), omega arith)

udp_low : (o : Opening) (socket : ℕ) (from : List ℕ) (port : ℕ) (server query : List ℕ) → AreLow (udp_calls socket from port server query o) → socket < 250
udp_low (opening.Refused cause) socket from port server query p = p.0
udp_low opening.Unconnected socket from port server query p = p.0
udp_low opening.Unsent socket from port server query p = p.0
udp_low opening.Sent socket from port server query p = p.0

kept_udp : (o : Opening) (socket : ℕ) (from : List ℕ) (port : ℕ) (server query : List ℕ) (w : Watched) → Keeps_ready w (marked_by_all w (udp_calls socket from port server query o)) (socket < 250)
kept_udp (opening.Refused cause) socket from port server query w = kept_missing cause w socket (socket < 250) (λ l. l)
kept_udp opening.Unconnected socket from port server query w = kept_mark w socket (socket < 250) (λ l. l)
kept_udp opening.Unsent socket from port server query w = kept_mark w socket (socket < 250) (λ l. l)
kept_udp opening.Sent socket from port server query w = kept_ready w (socket < 250)

kept_begin : (answer : Bound) (socket : ℕ) (from : List ℕ) (port : ℕ) (server : List ℕ) (to : ℕ) (w : Watched) → Keeps_ready w (marked_by_all w (call.begin socket from port server to answer ∷ [])) (socket < 250)
kept_begin bound.Made socket from port server to w = kept_ready w (socket < 250)
kept_begin (bound.Refused cause) socket from port server to w = kept_missing cause w socket (socket < 250) (λ l. l)

rest_cost : (all : Bool) (socket : ℕ) → Costs 0 (if all then [] else call.close socket ∷ [])
rest_cost true socket = costs_none 0
rest_cost false socket = ((refl, tt), omega arith)

written_cost : (all : Bool) (socket : ℕ) (bytes : List ℕ) (said : Option ℕ) → Costs 0 (call.write socket bytes said ∷ (if all then [] else call.close socket ∷ []))
written_cost true socket bytes said = ((refl, tt), omega arith)
written_cost false socket bytes said = ((refl, (refl, tt)), omega arith)

write_cost : (way : Way) (socket : ℕ) (bytes : List ℕ) (said : Option ℕ) → Costs 0 (write_calls socket bytes way said)
write_cost Udp socket bytes said = ((refl, tt), omega arith)
write_cost Connecting socket bytes said = written_cost (took_all (length bytes) said) socket bytes said
write_cost Connected socket bytes said = written_cost (took_all (length bytes) said) socket bytes said
write_cost (Missing cause) socket bytes said = costs_none 0

print_cost : (text : List ℕ) (old : Gathered) (calls : List Call) (new : Gathered) → PrintsText text old calls new → Costs 0 calls
print_cost [] old calls new p = costs_as 0 calls [] p.0 (costs_none 0)
print_cost (x ∷ xs) old calls new p = cost_as 0 calls _ p.1.0 refl (omega arith)

puts_cost : (room : Bool) (text : List ℕ) (old : Gathered) (calls : List Call) (new : Gathered) → PutsLineIf room text old calls new → Costs 0 calls
puts_cost true text old calls new p = costs_as 0 calls [] p.0 (costs_none 0)
puts_cost false text old calls new p = elim p [
  | inl bad ↦ cost_as 0 calls _ bad.0 refl (omega arith)
  | inr whole ↦ costs_as 0 calls _ whole.1.0 ((refl, (refl, tt)), omega arith)
]

lines_cost : (room : Bool) (text : List ℕ) (old : Gathered) (calls : List Call) (new : Gathered) → LinesIf room text old calls new → Costs 0 calls
lines_cost true text old calls new p = puts_cost _ text old calls new p
lines_cost false text old calls new p = costs_as 0 calls _ p.3.0 (costs_both 0 0 p.1 p.2 (print_cost old.text old p.1 p.0 p.3.1.0) (puts_cost _ text p.0 p.2 new p.3.1.1))

kept_over : (seat : Seat) (socket : ℕ) (w : Watched) → socket < 250 → Keeps_ready w (marked_over seat socket w) (Unit {0})
kept_over seat socket w few = kept_choice (is_over seat.conn) w socket (Unit {0}) (λ l. few)

seat_few : (index : ℕ) → index < 24 → seat_socket index < 250
seat_few index p = omega arith

makes_runs : (x : Action) (a : Edge) (calls : List Call) (b : Edge) → IsNumbered a.seats a.next_conn → Makes x a calls b → Runs a calls b
makes_runs (reply addr port bytes) a calls b n m =
    still_runs a b calls (replies_cost addr port bytes a.hears calls m.0) (ap (λ (e : Edge). e.round) m.1) (ap (λ (e : Edge). e.hears) m.1) (ap (λ (e : Edge). e.links) m.1)
makes_runs (conn_reply conn bytes) a calls b n m =
    let hears : b.hears ≡ a.hears = ap (λ (e : Edge). e.hears) m.1 in
    let links : b.links ≡ a.links = ap (λ (e : Edge). e.links) m.1 in
    elim m.0 [
      | inl none ↦ kept_runs a b calls (Unit {0}) (costs_as 0 calls [] none.1.0 (costs_none 0)) (kept_as a.round.watch b.round.watch a.round.watch (Unit {0}) none.1.1.1 (kept_ready a.round.watch (Unit {0}))) hears
          (λ o l. (tt, subst LinksLow (sym links) o.links))
      | inr there ↦
          let within : there.0 < 24 = subst (λ k. there.0 < k) n.places (slice_get_within a.seats there.0 there.1 there.3.0.0) in
          kept_runs a b calls (Unit {0}) (puts_seat_cost there.1.conn (seat_socket there.0) there.1 bytes calls there.2 there.3.1.0)
          (kept_as a.round.watch b.round.watch _ (Unit {0}) there.3.1.1.1 (kept_over there.2 (seat_socket there.0) a.round.watch (seat_few there.0 within))) hears
          (λ o l. (tt, subst LinksLow (sym links) o.links))
    ]
makes_runs (conn_close conn) a calls b n m =
    let c : Costs 0 calls = elim m.0 [
      | inl none ↦ costs_as 0 calls [] none.1.0 (costs_none 0)
      | inr there ↦ cost_as 0 calls _ there.2.1.0 refl (omega arith)
    ] in
    still_runs a b calls c (ap (λ (e : Edge). e.round) m.1) (ap (λ (e : Edge). e.hears) m.1) (ap (λ (e : Edge). e.links) m.1)
makes_runs (udp link port server query) a calls b n m =
    let hears : b.hears ≡ a.hears = ap (λ (e : Edge). e.hears) m.1 in
    let marks : b.round.watch ≡ marked_by_all a.round.watch calls = ap (λ (e : Edge). e.round.watch) m.1 in
    elim m.0 [
      | inl full ↦ kept_runs a b calls (Unit {0}) (costs_as 0 calls [] full.1.0 (costs_none 0))
          (kept_as a.round.watch b.round.watch a.round.watch (Unit {0}) (marks ∙ ap (marked_by_all a.round.watch) full.1.0) (kept_ready a.round.watch (Unit {0}))) hears
          (λ o l. (tt, subst LinksLow (sym full.1.1) o.links))
      | inr made ↦
          let socket : ℕ = link_socket a.links.vacant_key in
          let opens : List Call = udp_calls socket a.from port server query made.0 in
          kept_runs a b calls (socket < 250) (costs_as 0 calls opens made.1.0 (udp_cost made.0 socket a.from port server query))
          (kept_as a.round.watch b.round.watch (marked_by_all a.round.watch opens) (socket < 250) (marks ∙ ap (marked_by_all a.round.watch) made.1.0) (kept_udp made.0 socket a.from port server query a.round.watch)) hears
          (λ o l.
          let few : socket < 250 = udp_low made.0 socket a.from port server query (subst AreLow made.1.0 l) in
          (few, low_update a.links b.links a.links.vacant_key _ o.links (λ k e. few) made.1.1.put))
    ]
makes_runs (tcp link port server) a calls b n m =
    let hears : b.hears ≡ a.hears = ap (λ (e : Edge). e.hears) m.1 in
    let marks : b.round.watch ≡ marked_by_all a.round.watch calls = ap (λ (e : Edge). e.round.watch) m.1 in
    elim m.0 [
      | inl full ↦ kept_runs a b calls (Unit {0}) (costs_as 0 calls [] full.1.0 (costs_none 0))
          (kept_as a.round.watch b.round.watch a.round.watch (Unit {0}) (marks ∙ ap (marked_by_all a.round.watch) full.1.0) (kept_ready a.round.watch (Unit {0}))) hears
          (λ o l. (tt, subst LinksLow (sym full.1.1) o.links))
      | inr made ↦
          let socket : ℕ = link_socket a.links.vacant_key in
          let opens : List Call = call.begin socket a.from port server 53 made.0 ∷ [] in
          kept_runs a b calls (socket < 250) (costs_as 0 calls opens made.1.0 ((refl, tt), omega arith))
          (kept_as a.round.watch b.round.watch (marked_by_all a.round.watch opens) (socket < 250) (marks ∙ ap (marked_by_all a.round.watch) made.1.0) (kept_begin made.0 socket a.from port server 53 a.round.watch)) hears
          (λ o l.
          let few : socket < 250 = (subst AreLow made.1.0 l).0 in
          (few, low_update a.links b.links a.links.vacant_key _ o.links (λ k e. few) made.1.1.put))
    ]
makes_runs (link_write link bytes) a calls b n m =
    let hears : b.hears ≡ a.hears = ap (λ (e : Edge). e.hears) m.1 in
    elim m.0 [
      | inl none ↦ kept_runs a b calls (Unit {0}) (costs_as 0 calls [] none.1.0 (costs_none 0)) (kept_as a.round.watch b.round.watch a.round.watch (Unit {0}) none.1.1.1 (kept_ready a.round.watch (Unit {0}))) hears
          (λ o l. (tt, subst LinksLow (sym none.1.1.0) o.links))
      | inr there ↦
          let socket : ℕ = link_socket there.0 in
          kept_runs a b calls (socket < 250) (costs_as 0 calls _ there.3.1.1.0 (write_cost there.1.way socket bytes there.2))
          (kept_as a.round.watch b.round.watch _ (socket < 250) there.3.1.1.1.1 (kept_mark a.round.watch socket (socket < 250) (λ l. l))) hears
          (λ o l. let few : socket < 250 = o.links there.0 there.1 there.3.0 in (few, low_update a.links b.links there.0 _ o.links (λ k e. few) there.3.1.1.1.0))
    ]
makes_runs (link_close link) a calls b n m =
    let hears : b.hears ≡ a.hears = ap (λ (e : Edge). e.hears) m.1 in
    let same : b.round.watch ≡ recalled_by a.round.watch calls = ap (λ (e : Edge). e.round.watch) m.1 in
    let k : Keeps_ready a.round.watch b.round.watch (Unit {0}) = kept_as a.round.watch b.round.watch (recalled_by a.round.watch calls) (Unit {0}) same (kept_closed calls a.round.watch (Unit {0})) in
    elim m.0 [
      | inl none ↦ kept_runs a b calls (Unit {0}) (costs_as 0 calls [] none.1.0 (costs_none 0)) k hears (λ o l. (tt, subst LinksLow (sym none.1.1) o.links))
      | inr there ↦ kept_runs a b calls (Unit {0}) (costs_as 0 calls _ there.2.1.1.0 (close_cost there.1.way (link_socket there.0))) k hears
          (λ o l. (tt, low_update a.links b.links there.0 None o.links (λ k e. cc) there.2.1.1.1))
    ]
makes_runs (line text) a calls b n m =
    still_runs a b calls (lines_cost _ text a.log calls b.log m.0) (ap (λ (e : Edge). e.round) m.1) (ap (λ (e : Edge). e.hears) m.1) (ap (λ (e : Edge). e.links) m.1)

-- Listening.
hearing_cost : (h : Hearing) (addr : List ℕ) (port : ℕ) → Costs 0 (listen_calls addr port h)
hearing_cost (refused cause) addr port = ((refl, tt), omega arith)
hearing_cost deaf addr port = ((refl, (refl, (refl, tt))), omega arith)
hearing_cost both addr port = ((refl, (refl, tt)), omega arith)

-- What is said of a run whether or not listening is begun again in it.
record Spends (a : Edge) (calls : List Call) (b : Edge) : Type 0 where
  within : (rest : List Call) → WithinTurns b.round.watch.turns rest → WithinTurns a.round.watch.turns (calls ++ rest)
  order : IsInOrder a → AreLow calls → IsInOrder b

spends_both : (a m b : Edge) (xs ys : List Call) → Spends a xs m → Spends m ys b → Spends a (xs ++ ys) b
spends_both a m b xs ys p q = record {
  within = λ rest w. subst (λ (l : List Call). WithinTurns a.round.watch.turns l) (sym (append_assoc xs ys rest)) (p.within (ys ++ rest) (q.within rest w));
  order = λ o low. let parts = all_split IsLow xs ys low in q.order (p.order o parts.0) parts.1;
}

spends_by : (a b : Edge) (calls : List Call) → Runs a calls b → Spends a calls b
spends_by a b calls r = record { within = r.within; order = r.order }

listens_spend : (a b : Edge) (calls : List Call) → Costs 0 calls → b.round ≡ a.round → b.links ≡ a.links → Spends a calls b
listens_spend a b calls c r l =
    let few = c.1 in
    record {
      within = λ rest w. awake_within calls rest a.round.watch.turns b.round.watch.turns c.0 (omega (arith, ap (λ (x : Round). x.watch.turns) r)) w;
      order = λ o low. order_from a b o (λ x. subst (λ (y : Round). InOrder y.watch) (sym r) x) (λ x. subst LinksLow (sym l) x);
    }

module _ {S : Type 0} (called : S → List Call → S → Type 0) (none : (a : S) → called a [] a) (join : (a b c : S) (xs ys : List Call) → called a xs b → called b ys c → called a (xs ++ ys) c) where
  abbrev Turned : Shown S → List Passed → List Call → Shown S → Type 0
  Turned a xs calls b = called a.system calls b.system × (Spends a.edge calls b.edge × (GoesOnListening (exchanges_of xs) → Runs a.edge calls b.edge))

  run_turns : (a b : Shown S) (xs : List Passed) → IsNumbered a.edge.seats a.edge.next_conn → Accounted called a xs b → (calls : List Call) × Turned a xs calls b
  run_turns a b [] n p =
      let runs : Runs a.edge [] b.edge =
      still_runs a.edge b.edge [] (costs_none 0) (ap (λ (w : Shown S). w.edge.round) p) (ap (λ (w : Shown S). w.edge.hears) p) (ap (λ (w : Shown S). w.edge.links) p) in
      ([], (subst (λ (w : Shown S). called a.system [] w.system) (sym p) (none a.system), (spends_by a.edge b.edge [] runs, λ l. runs)))
  run_turns a b (exchanged (listened addr send_from ok) ∷ xs) n p =
      let one = p.1.0 in
      let e = one.1.1.0 in
      let first : Spends a.edge one.0 p.0.edge =
      listens_spend a.edge p.0.edge one.0 (costs_as 0 one.0 _ e.0.1.0 (hearing_cost e.0.0 addr a.port)) (ap (λ (w : Edge). w.round) e.1) (ap (λ (w : Edge). w.links) e.1) in
      let rest = run_turns p.0 b xs (part_numbered called (exchanged (listened addr send_from ok)) a p.0 one.0 one.1.1 n) p.1.1 in
      (one.0 ++ rest.0, (join _ _ _ _ _ one.1.0 rest.1.0, (spends_both a.edge p.0.edge b.edge one.0 rest.0 first rest.1.1.0, λ l. absurd l)))
  run_turns a b (exchanged (asked wake said) ∷ xs) n p =
      let one = p.1.0 in
      let first : Runs a.edge one.0 p.0.edge = gave_turns wake said a.edge one.0 p.0.edge one.1.1.0 in
      let rest = run_turns p.0 b xs (part_numbered called (exchanged (asked wake said)) a p.0 one.0 one.1.1 n) p.1.1 in (
        one.0 ++ rest.0,
        (
          join _ _ _ _ _ one.1.0 rest.1.0,
          (spends_both a.edge p.0.edge b.edge one.0 rest.0 (spends_by a.edge p.0.edge one.0 first) rest.1.1.0, λ l. runs_both a.edge p.0.edge b.edge one.0 rest.0 first (rest.1.1.1 l)),
        ),
      )
  run_turns a b (exchanged (gathered e) ∷ xs) n p =
      let one = p.1.0 in
      let first : Runs a.edge one.0 p.0.edge = heard_turns None e a.edge one.0 p.0.edge one.1.1.0.0 in
      let rest = run_turns p.0 b xs (part_numbered called (exchanged (gathered e)) a p.0 one.0 one.1.1 n) p.1.1 in (
        one.0 ++ rest.0,
        (
          join _ _ _ _ _ one.1.0 rest.1.0,
          (spends_both a.edge p.0.edge b.edge one.0 rest.0 (spends_by a.edge p.0.edge one.0 first) rest.1.1.0, λ l. runs_both a.edge p.0.edge b.edge one.0 rest.0 first (rest.1.1.1 l)),
        ),
      )
  run_turns a b (none_came ∷ xs) n p =
      let one = p.1.0 in
      let first : Runs a.edge one.0 p.0.edge = none_turns a.edge one.0 p.0.edge one.1.1.0 in
      let rest = run_turns p.0 b xs (part_numbered called none_came a p.0 one.0 one.1.1 n) p.1.1 in (
        one.0 ++ rest.0,
        (
          join _ _ _ _ _ one.1.0 rest.1.0,
          (spends_both a.edge p.0.edge b.edge one.0 rest.0 (spends_by a.edge p.0.edge one.0 first) rest.1.1.0, λ l. runs_both a.edge p.0.edge b.edge one.0 rest.0 first (rest.1.1.1 l)),
        ),
      )
  run_turns a b (exchanged (did x) ∷ xs) n p =
      let one = p.1.0 in
      let first : Runs a.edge one.0 p.0.edge = makes_runs x a.edge one.0 p.0.edge n one.1.1.0 in
      let rest = run_turns p.0 b xs (part_numbered called (exchanged (did x)) a p.0 one.0 one.1.1 n) p.1.1 in (
        one.0 ++ rest.0,
        (
          join _ _ _ _ _ one.1.0 rest.1.0,
          (spends_both a.edge p.0.edge b.edge one.0 rest.0 (spends_by a.edge p.0.edge one.0 first) rest.1.1.0, λ l. runs_both a.edge p.0.edge b.edge one.0 rest.0 first (rest.1.1.1 l)),
        ),
      )

  pub looks_in_turn : (a b : Shown S) (xs : List Exchange) → IsNumbered a.edge.seats a.edge.next_conn → Explained called a xs b → LooksInTurn called a xs b
  looks_in_turn a b xs n p =
      let r = run_turns a b p.0 n p.1.1 in
      let whole : r.0 ++ [] ≡ r.0 = append-nil r.0 in (
        r.0,
        (
          r.1.0,
          (
            subst (λ (l : List Call). WithinTurns a.edge.round.watch.turns l) whole (r.1.1.0.within [] tt),
            (
              r.1.1.0.order,
              λ on goes o low socket small.
                  subst (λ (l : List Call). IsSeen socket 4 l) whole ((r.1.1.1 (subst GoesOnListening (sym p.1.0) goes)).seen socket small on o low [] tt (λ (q m : ℕ) st. tt)),
            ),
          ),
        ),
      )

-- In a world at first nothing is ready and no link stands.
ordered_none : Ordered []
unfolding IsDistinct
ordered_none = (tt, λ q p. cc)

pub fresh_in_order : {S : Type 0} (over : S) (at : ℕ) (w : Shown S) → IsFresh over at w → IsInOrder w.edge
fresh_in_order {S} over at w f =
    let ready : w.edge.round.watch.ready ≡ [] = ap (λ (r : Round). r.watch.ready) f.round in
    let o : Ordered w.edge.round.watch.ready = subst Ordered (sym ready) ordered_none in
    let held : AreBelow w.edge.round.watch.held = subst AreBelow (sym (ap (λ (r : Round). r.watch.held) f.round)) (λ q p. cc) in
    record { once = o.0; below = o.1; held = held; links = λ key link p. let none = f.links key in (cc) }
