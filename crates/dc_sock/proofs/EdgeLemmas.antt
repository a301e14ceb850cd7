-- Calls after which nothing was heard, and what is heard behind them.
use Rattle.std.specs.Prelude.{◌≡◌, ℕ, Bool, true, false, List, [], ◌∷◌, ◌++◌, length, drop, ◌<◌, slice_get, slice_set, ◌==◌, ◌≤◌, ◌-◌, ◌^◌, ◌||◌, not, if◌then◌else◌, refl}
use Rattle.std.proofs.Common.{inl, inr, sym, subst, ◌∙◌, ap, append_assoc, arith, zero, suc}
use Rattle.std.proofs.lemmas.List.{append-nil, set-get_or, get_or-set_same, length-set}
use Rattle.std.proofs.lemmas.Option.{get_or_from_slice_get, slice_get_within, slice_get-get_or}
use Rattle.std.specs.declared.option.Option.{Option}
use Rattle.std.specs.declared.option.Option.TheVariants.{None, Some}
use Rattle.slab.specs.Slab.{Slab}
use Rattle.dc_sock.specs.declared.link.Link.{Link}
use Rattle.dc_model.specs.Event.{Event as ModelEvent}
use Rattle.dc_system.specs.Call.{Call, letter_bytes, part_bytes}
use Rattle.dc_system.specs.Call as call
use Rattle.dc_system.specs.declared.answers.Accepted.{Accepted}
use Rattle.dc_system.specs.declared.answers.Accepted.TheVariants as accepted
use Rattle.dc_system.specs.declared.answers.NoSocket.{NoSocket}
use Rattle.dc_system.specs.declared.answers.NoSocket.TheVariants as no_socket
use Rattle.dc_system.specs.declared.answers.Part.{Part}
use Rattle.dc_system.specs.declared.answers.Part.TheVariants as part
use Rattle.dc_system.specs.declared.answers.Received.{Received}
use Rattle.dc_system.specs.declared.answers.Received.TheVariants as received
use Rattle.dc_system.specs.declared.answers.Standing.{Standing}
use Rattle.dc_system.specs.declared.answers.Standing.TheVariants as standing
use Rattle.dc_engine.specs.declared.events.Kind.TheVariants as kind
use Rattle.dc_sock.specs.declared.found.Found.{Found}
use Rattle.dc_sock.specs.declared.found.Step.{Step}
use Rattle.dc_sock.specs.declared.found.Step.TheVariants as step
use Rattle.dc_sock.specs.declared.link.Way.{Way}
use Rattle.dc_sock.specs.declared.link.Way.TheVariants.{Udp, Connecting, Connected, Missing}
use Rattle.dc_sock.specs.declared.place.Place.{Place}
use Rattle.dc_sock.specs.declared.place.Place.TheVariants as place
use Rattle.dc_sock.specs.Found.{plain_found, event_found}
use Rattle.dc_sock.specs.Log.{Gathered, after_print, PrintsText, PrintsAll}
use Rattle.dc_sock.specs.Moment.{is_reached, pause_of, until, IsSoon, IsPatient, IsWithin}
use Rattle.dc_sock.specs.Asked.{is_settled}
use Rattle.dc_sock.specs.Place.{place_at, token_at}
use Rattle.dc_sock.specs.Ready.{Watched, marked, mark_in, marked_each, renewed, told_ready, next_token, without_token, Asks, Waits}
use Rattle.dc_sock.specs.Round.{Round, round_of, Takes, TakesOrTries, again_behind, again_if, look_marks, marked_by_all, InTurn, is_busy, IsAtOnce, IsTicked}
use Rattle.dc_sock.specs.LinkCalls.{datagram_step, standing_step, part_step, HearsWay}
use Rattle.dc_sock.specs.Links.{LooksAt, link_socket}
use Rattle.dc_sock.specs.declared.seat.Conn.{Conn}
use Rattle.dc_sock.specs.declared.seat.Seat.{Seat}
use Rattle.dc_sock.specs.SeatCalls.{conn_step, conn_after, left_by, ReadsBehind, LooksAtConn, LooksAtSeat}
use Rattle.dc_sock.specs.ClientCalls.{request_step, HearsRequests, AcceptGives, Accepts, HearsSeat, seat_socket}
use Rattle.dc_sock.specs.declared.clients.Clients.{Clients}
use Rattle.dc_sock.specs.declared.links.Links.{Links}
use Rattle.dc_sock.specs.declared.sockets.Sockets.{Sockets}
use Rattle.dc_sock.specs.declared.sockets.Turn.{Turn}
use Rattle.dc_sock.specs.declared.sockets.Turn.TheVariants as turn
use Rattle.dc_sock.specs.Edge.{Edge, edge_of, IsLate, HasNoConn, IsVacant, WaitsInTime, Rests, Turns, Quiet, Looks, Finds, Hears, FailedBy, Fails, IsFound, HearsAt, HearsOne, HearsSome}
use Rattle.dc_sock.proofs.StreamLemmas.{differs}
use Rattle.dc_sock.proofs.RoundLemmas.{no_pass, passed_over, quiet_behind, step_quiet, one_quiet, now_step, takes_here, in_turn, token_again}

set_there : (seats : List Seat) (index : ℕ) (seat : Seat) → slice_get seats index ≡ Some seat → slice_set seats index seat ≡ seats
set_there seats index seat there = subst (λ (x : Seat). slice_set seats index x ≡ seats) (get_or_from_slice_get seats index seat seat there) (set-get_or seats index seat)

-- The places behind a look that left this at one of them.
abbrev placed : Edge → ℕ → Seat → Round → Edge
placed a index seat round = record a { seats = slice_set a.seats index seat; round = round }

placed_same : (a : Edge) (index : ℕ) (seat after : Seat) (round : Round) → slice_get a.seats index ≡ Some seat → after ≡ seat → placed a index after round ≡ record a { round = round }
placed_same a index seat after round there e =
    ap (λ (x : Seat). placed a index x round) e ∙ ap (λ (seats : List Seat). record a { seats = seats; round = round }) (set_there a.seats index seat there)

same_links : (a b : Edge) → b ≡ record a { links = b.links; round = b.round } → b.links ≡ a.links → b ≡ record a { round = b.round }
same_links a b e l = e ∙ ap (λ links. record a { links = links; round = b.round }) l

failed_later : (m : Edge) (xs ys : List Call) → FailedBy m ys → FailedBy m (xs ++ ys)
failed_later m xs ys f = elim f [
  | inl log ↦ inl log
  | inr calls ↦ inr (
    xs ++ calls.0,
    elim calls.1 [
      | inl now ↦ inl (ap (λ cs. xs ++ cs) now ∙ sym (append_assoc xs calls.0 (call.now None ∷ [])))
      | inr wait ↦ inr (wait.0, ap (λ cs. xs ++ cs) wait.1 ∙ sym (append_assoc xs calls.0 (call.wait wait.0 false ∷ [])))
    ],
  )
]

-- A log that didn't fail.
pub calm : (log : Gathered) → log.failed ≡ false → log ≡ record log { failed = false }
calm log e = ap (λ f. record { text = log.text; failed = f }) e

-- What a look found at a source that was taken.
looks_round : (source : Place) (a : Edge) (r : Round) (calls : List Call) (id : ℕ) (gave : Step) (buffer : List ℕ) (b : Edge) → Looks source (record a { round = r }) calls id gave buffer b → Looks source a calls id gave buffer b
looks_round place.Datagrams a r calls id gave buffer b h = h
looks_round place.Listener a r calls id gave buffer b h = h
looks_round (place.Seat index) a r calls id gave buffer b h = h
looks_round (place.Link key) a r calls id gave buffer b h = h

pub found_finds : (e : ModelEvent) (token moment : ℕ) (a m : Edge) (calls : List Call) (b : Edge) → a.clock ≡ Some moment → m ≡ record a { round = m.round } → TakesOrTries (IsLate a) a.round token m.round → HearsAt true e token moment m calls b → Finds a calls e b
found_finds e token moment a m calls b clock same t h = record {
  token = token;
  moment = moment;
  id = h.0;
  gave = h.1;
  found = h.2;
  buffer = h.3;
  clock = clock;
  looks = looks_round (place_at token) a m.round calls h.0 h.1 h.3 b (subst (λ (x : Edge). Looks (place_at token) x calls h.0 h.1 h.3 b) same h.4.0);
  turn = (m.round, (t, h.4.1.1.1));
  one = h.4.1.0;
  event = h.4.1.1.0;
}

-- The same in the words of a look, behind which the source itself is marked or not.
looks_left : (source : Place) (a : Edge) (calls : List Call) (id : ℕ) (gave : Step) (buffer : List ℕ) (b : Edge) (r : Round) → Looks source a calls id gave buffer b → Looks source a calls id gave buffer (record b { round = r })
looks_left place.Datagrams a calls id gave buffer b r h = (h.0, (h.1.0, ap (λ (x : Edge). record x { round = r }) h.1.1))
looks_left place.Listener a calls id gave buffer b r h = (h.0, (h.1.0, ap (λ (x : Edge). record x { round = r }) h.1.1))
looks_left (place.Seat index) a calls id gave buffer b r h = (h.0, ap (λ (x : Edge). record x { round = r }) h.1)
looks_left (place.Link key) a calls id gave buffer b r h = (h.0, ap (λ (x : Edge). record x { round = r }) h.1)

event_marks : (source : Place) (found : Found) (calls : List Call) (w : Watched) → look_marks source (step.Event found) calls w ≡ w
event_marks place.Datagrams found calls w = refl
event_marks place.Listener found calls w = refl
event_marks (place.Seat index) found calls w = refl
event_marks (place.Link key) found calls w = refl

last_marks : (source : Place) (found : Found) (calls : List Call) (w : Watched) → look_marks source (step.Last found) calls w ≡ w
last_marks place.Datagrams found calls w = refl
last_marks place.Listener found calls w = refl
last_marks (place.Seat index) found calls w = refl
last_marks (place.Link key) found calls w = refl

pub nothing_heard : (e : ModelEvent) (token moment : ℕ) (a : Edge) (calls : List Call) (b : Edge) (source : Place) (id : ℕ) (gave : Step) (buffer : List ℕ) → source ≡ place_at token → gave ≡ step.Nothing → Looks source a calls id gave buffer b → b.round.watch ≡ look_marks source gave calls a.round.watch → b.round ≡ record a.round { watch = b.round.watch } → HearsAt false e token moment a calls b
nothing_heard e token moment a calls b source id gave buffer at none l w r = (
  id,
  buffer,
  (
    subst (λ (x : Place). Looks x a calls id step.Nothing buffer b) at (subst (λ (x : Step). Looks source a calls id x buffer b) none l),
    r
        ∙ ap (λ (x : Watched). record a.round { watch = x })
        (w ∙ (ap (λ (x : Step). look_marks source x calls a.round.watch) none ∙ ap (λ (x : Place). look_marks x step.Nothing calls a.round.watch) at)),
  ),
)

pub event_heard : (e : ModelEvent) (token moment : ℕ) (a : Edge) (calls : List Call) (b : Edge) (source : Place) (id : ℕ) (gave : Step) (found : Found) (buffer : List ℕ) (after : Watched) → source ≡ place_at token → gave ≡ step.Event found → Looks source a calls id gave buffer b → b.round.watch ≡ look_marks source gave calls a.round.watch → e ≡ event_found moment id found buffer → after ≡ mark_in b.round.watch token → HearsAt true e token moment a calls (record b { round = record a.round { watch = after } })
event_heard e token moment a calls b source id gave found buffer after at is l w event marks =
    let r : Round = record a.round { watch = after } in
    let same : b.round.watch ≡ a.round.watch = w ∙ (ap (λ (x : Step). look_marks source x calls a.round.watch) is ∙ event_marks source found calls a.round.watch) in (
      id,
      gave,
      found,
      buffer,
      (
        subst (λ (x : Place). Looks x a calls id gave buffer (record b { round = r })) at (looks_left source a calls id gave buffer b r l),
        (
          subst (λ (x : Step). IsFound x found) (sym is) refl,
          (
            event,
            ap (λ (x : Watched). record a.round { watch = x })
                (marks ∙ (ap (λ (x : Watched). mark_in x token) same ∙ ap (λ (x : Step). again_if x token a.round.watch) (sym is))),
          ),
        ),
      ),
    )

pub last_heard : (e : ModelEvent) (token moment : ℕ) (a : Edge) (calls : List Call) (b : Edge) (source : Place) (id : ℕ) (gave : Step) (found : Found) (buffer : List ℕ) → source ≡ place_at token → gave ≡ step.Last found → Looks source a calls id gave buffer b → b.round.watch ≡ look_marks source gave calls a.round.watch → b.round ≡ record a.round { watch = b.round.watch } → e ≡ event_found moment id found buffer → HearsAt true e token moment a calls b
last_heard e token moment a calls b source id gave found buffer at is l w r event =
    let same : b.round.watch ≡ a.round.watch = w ∙ (ap (λ (x : Step). look_marks source x calls a.round.watch) is ∙ last_marks source found calls a.round.watch) in (
      id,
      gave,
      found,
      buffer,
      (
        subst (λ (x : Place). Looks x a calls id gave buffer b) at l,
        (
          subst (λ (x : Step). IsFound x found) (sym is) refl,
          (event, r ∙ (ap (λ (x : Watched). record a.round { watch = x }) same ∙ ap (λ (x : Step). record a.round { watch = again_if x token a.round.watch }) (sym is))),
        ),
      ),
    )

pub from_same : (a : Edge) (from : List ℕ) (links : Slab Link) (watch : Watched) → from ≡ a.from → record a { from = from; links = links; round = round_of watch } ≡ record a { links = links; round = round_of watch }
from_same a from links watch p = ap (λ (f : List ℕ). record a { from = f; links = links; round = round_of watch }) p

pub opened_same : (a : Edge) (from : List ℕ) (links : Slab Link) (watch marked : Watched) → from ≡ a.from → watch ≡ marked → record a { from = from; links = links; round = round_of watch } ≡ record a { links = links; round = round_of marked }
opened_same a from links watch marked p w = from_same a from links watch p ∙ ap (λ (x : Watched). record a { links = links; round = round_of x }) w

-- A state in which another moment to try again is kept, behind a turn.
abbrev retried : Edge → Option ℕ → Round → Edge
retried a retry round = record a { retry = retry; round = round }

same_next : (a b : Edge) → b ≡ record a { retry = b.retry; next_conn = b.next_conn; seats = b.seats; round = b.round } → b.next_conn ≡ a.next_conn → b.seats ≡ a.seats → b ≡ retried a b.retry b.round
same_next a b e n s =
    e ∙ ap (λ n. record a { retry = b.retry; next_conn = n; seats = b.seats; round = b.round }) n ∙ ap (λ (l : List Seat). record a { retry = b.retry; seats = l; round = b.round }) s

get_set : (seats : List Seat) (index : ℕ) (seat new : Seat) → slice_get seats index ≡ Some seat → slice_get (slice_set seats index new) index ≡ Some new
get_set seats index seat new there =
    let within : index < length seats = slice_get_within seats index seat there in
    slice_get-get_or (slice_set seats index new) index new (omega (arith, length-set seats index new)) ∙ ap (λ (x : Seat). Some x) (get_or-set_same seats index new new within)

set_twice : (seats : List Seat) (index : ℕ) (one other : Seat) → slice_set (slice_set seats index one) index other ≡ slice_set seats index other
set_twice [] index one other = refl
set_twice (x ∷ xs) zero one other = refl
set_twice (x ∷ xs) (suc n) one other = ap (λ (l : List Seat). x ∷ l) (set_twice xs n one other)

placed_twice : (a : Edge) (index : ℕ) (one other : Seat) (r round : Round) → placed (placed a index one r) index other round ≡ placed a index other round
placed_twice a index one other r round = ap (λ (l : List Seat). record a { seats = l; round = round }) (set_twice a.seats index one other)

pub clients_same : (a : Edge) (hears : Bool) (retry : Option ℕ) (next : ℕ) (seats : List Seat) (round : Round) → hears ≡ a.hears → retry ≡ a.retry → next ≡ a.next_conn → record a { hears = hears; retry = retry; next_conn = next; seats = seats; round = round } ≡ record a { seats = seats; round = round }
clients_same a hears retry next seats round p r q =
    ap (λ (h : Bool). record a { hears = h; retry = retry; next_conn = next; seats = seats; round = round }) p
    ∙ ap (λ (o : Option ℕ). record a { retry = o; next_conn = next; seats = seats; round = round }) r
    ∙ ap (λ (n : ℕ). record a { next_conn = n; seats = seats; round = round }) q

-- A pause that was reckoned up to a moment.
pub paused : (limit : Option ℕ) (now : ℕ) (busy : Bool) → IsWithin limit (Some now) (pause_of limit now busy)
paused None now busy = tt
paused (Some limit) now true = omega arith
paused (Some limit) now false = omega arith

at_once : (ready : List ℕ) (limit : Option ℕ) (now : ℕ) (due : Bool) → IsAtOnce ready (pause_of limit now (due || not (length ready == 0)))
at_once [] limit now due = tt
at_once (token ∷ tokens) limit now true = refl
at_once (token ∷ tokens) limit now false = ap (λ (b : Bool). pause_of limit now (not b)) (differs (length (token ∷ tokens)) 0 (λ e. omega arith))

patient : (busy : Bool) (limit : Option ℕ) (now : ℕ) → IsPatient busy limit (Some now) (pause_of limit now busy)
patient true limit now = tt
patient false None now = tt
patient false (Some limit) now = omega arith

pub in_time : (wake : Option ℕ) (a : Edge) (now : ℕ) (limit : Option ℕ) (pause : Option ℕ) → IsSoon a.hears a.retry (Some now) → a.clock ≡ Some now → (is_reached wake now ≡ true → a.round.watch.ticked ≡ true) → a.log.text ≡ [] → limit ≡ until a.hears a.retry wake → pause ≡ pause_of limit now (is_busy wake (Some now) a.round.watch.ready) → WaitsInTime wake a pause
in_time wake a now limit pause soon clock ticked logged l p =
    let ready : List ℕ = a.round.watch.ready in
    let paused_so : pause ≡ pause_of (until a.hears a.retry wake) now (is_busy wake (Some now) ready) = p ∙ ap (λ (x : Option ℕ). pause_of x now (is_busy wake (Some now) ready)) l in (
      subst (λ (c : Option ℕ). IsSoon a.hears a.retry c) (sym clock) soon,
      (
        subst (λ (c : Option ℕ). IsWithin (until a.hears a.retry wake) c pause) (sym clock)
            (subst (λ (x : Option ℕ). IsWithin (until a.hears a.retry wake) (Some now) x) (sym paused_so) (paused (until a.hears a.retry wake) now (is_busy wake (Some now) ready))),
        (
          subst (λ (c : Option ℕ). IsPatient (is_busy wake c ready) (until a.hears a.retry wake) c pause) (sym clock)
              (subst (λ (x : Option ℕ). IsPatient (is_busy wake (Some now) ready) (until a.hears a.retry wake) (Some now) x) (sym paused_so) (patient (is_busy wake (Some now) ready) (until a.hears a.retry wake) now)),
          (
            subst (λ (x : Option ℕ). IsAtOnce ready x) (sym paused_so) (at_once ready (until a.hears a.retry wake) now (is_reached wake now)),
            (subst (λ (c : Option ℕ). IsTicked wake c a.round.watch.ticked) (sym clock) ticked, logged),
          ),
        ),
      ),
    )

-- Nothing is left behind a print of all that was gathered.
text_printed : (text : List ℕ) (old : Gathered) (calls : List Call) (new : Gathered) → text ≡ old.text → PrintsText text old calls new → new.text ≡ []
text_printed [] old calls new e p = ap (λ (g : Gathered). g.text) p.1 ∙ sym e
text_printed (x ∷ xs) old calls new e p = ap (λ (g : Gathered). g.text) p.1.1

pub all_printed : (old : Gathered) (calls : List Call) (new : Gathered) → PrintsAll old calls new → new.text ≡ []
all_printed old calls new p = text_printed old.text old calls new refl p

-- The state of sockets of which only what is ready changed.
abbrev watching : Option ℕ → Clients → Links → Gathered → Watched → Edge
watching clock clients links log watch =
    record { hears = clients.hears; retry = clients.retry; from = links.from; links = links.links; next_conn = clients.next; seats = clients.seats.items; log = log; clock = clock; round = round_of watch }

pub watched_else : (clock : Option ℕ) (old new : Sockets) (watch : Watched) → new.clients ≡ old.clients → new.links ≡ old.links → new.log ≡ old.log → new.watch ≡ watch → edge_of clock new ≡ record (edge_of clock old) { round = round_of watch }
watched_else clock old new watch p q r s =
    ap (λ (x : Clients). watching clock x new.links new.log new.watch) p
    ∙ (ap (λ (x : Links). watching clock old.clients x new.log new.watch) q
    ∙ (ap (λ (x : Gathered). watching clock old.clients old.links x new.watch) r ∙ ap (λ (x : Watched). watching clock old.clients old.links old.log x) s))

module _ (wake : Option ℕ) where
  pub quiet_append : (a m b : Edge) (xs ys : List Call) → Quiet wake a xs m → Quiet wake m ys b → Quiet wake a (xs ++ ys) b
  quiet_append a m b [] ys p q = quiet_behind wake a m b ys p q
  quiet_append a m b (x ∷ xs) ys p q = (p.0, (p.1.0, quiet_append p.0 m b xs ys p.1.1 q))

  quiet_as : (a b : Edge) (calls xs : List Call) → calls ≡ xs → Quiet wake a xs b → Quiet wake a calls b
  quiet_as a b calls xs e q = subst (λ (cs : List Call). Quiet wake a cs b) (sym e) q

  -- Looks that gave nothing, each at a source that was taken, which leaves this round.
  request_quiet : (answer : Received) (a : Edge) (r : Round) (token : ℕ) (b : Edge) (bytes : List ℕ) → step.Nothing ≡ request_step answer → 0 ≡ token → Takes a.round token r → b ≡ record a { round = b.round } → b.round ≡ r → Quiet wake a (call.receive 0 answer bytes ∷ []) b
  request_quiet received.Nothing a r token b bytes p k t e q = one_quiet wake a (call.receive 0 received.Nothing bytes) b (tt, e) (takes_here a.round r b.round 0 token k t q)
  request_quiet (received.Datagram letter) a r token b bytes p k t e q = cc
  request_quiet received.Failed a r token b bytes p k t e q = one_quiet wake a (call.receive 0 received.Failed bytes) b (refl, e) (takes_here a.round r b.round 0 token k t q)

  requests_quiet : (hears : Bool) (a : Edge) (r : Round) (token : ℕ) (calls : List Call) (buffer : List ℕ) (b : Edge) → a.hears ≡ hears → place_at token ≡ place.Datagrams → 0 ≡ token → Takes a.round token r → HearsRequests hears calls step.Nothing buffer → b ≡ record a { round = b.round } → b.round ≡ r → Quiet wake a calls b
  requests_quiet true a r token calls buffer b heard at k t h e q = quiet_as a b calls _ h.1.0 (request_quiet h.0 a r token b (letter_bytes h.0 buffer) h.1.1 k t e q)
  requests_quiet false a r token calls buffer b heard at k t h e q =
      quiet_as a b calls [] h.0 (passed_over a b r token t (subst (λ (x : Place). IsVacant a.hears a.seats a.links x) (sym at) heard) e q)

  -- The listener is taken in turn, or a try is overdue.
  accepts_turn : (a : Edge) (r : Round) (token : ℕ) (calls : List Call) (s : ℕ) (answer : Accepted) (after : Round) → 1 ≡ token → TakesOrTries (IsLate a) a.round token r → after ≡ record r { watch = again_behind answer 1 s r.watch } → InTurn (IsLate a) a.round (call.accept 1 s answer) after
  accepts_turn a r token calls s answer after k t e = (refl, (r, (subst (λ (n : ℕ). TakesOrTries (IsLate a) a.round n r) (sym k) t, e)))

  accept_quiet : (answer : Accepted) (a : Edge) (r : Round) (token : ℕ) (b : Edge) (calls : List Call) → 1 ≡ token → TakesOrTries (IsLate a) a.round token r → AcceptGives answer a.seats a.next_conn a.clock calls step.Nothing b.seats b.retry → (b.seats ≡ a.seats → b ≡ retried a b.retry b.round) → b.round ≡ record r { watch = marked_by_all r.watch calls } → Quiet wake a calls b
  accept_quiet accepted.Nothing a r token b calls k t p e q =
      quiet_as a b calls _ p.1.0 (one_quiet wake a (call.accept 1 p.0 accepted.Nothing) b (e p.1.1.1.0 ∙ ap (λ (x : Option ℕ). retried a x b.round) p.1.1.1.1)
      (accepts_turn a r token calls p.0 accepted.Nothing b.round k t (q ∙ ap (λ (cs : List Call). record r { watch = marked_by_all r.watch cs }) p.1.0)))
  accept_quiet accepted.Aborted a r token b calls k t p e q =
      quiet_as a b calls _ p.1.0 (one_quiet wake a (call.accept 1 p.0 accepted.Aborted) b (e p.1.1.1.0 ∙ ap (λ (x : Option ℕ). retried a x b.round) p.1.1.1.1)
      (accepts_turn a r token calls p.0 accepted.Aborted b.round k t (q ∙ ap (λ (cs : List Call). record r { watch = marked_by_all r.watch cs }) p.1.0)))
  accept_quiet accepted.Failed a r token b calls k t p e q =
      quiet_as a b calls _ p.1.0 (one_quiet wake a (call.accept 1 p.0 accepted.Failed) b (e p.1.1.1.0 ∙ ap (λ (x : Option ℕ). retried a x b.round) p.1.1.1.1)
      (accepts_turn a r token calls p.0 accepted.Failed b.round k t (q ∙ ap (λ (cs : List Call). record r { watch = marked_by_all r.watch cs }) p.1.0)))
  accept_quiet (accepted.Connection peer) a r token b calls k t p e q = elim p [
    | inl kept ↦ let no = kept.2.1.1.1.0 in (cc)
    | inr closed ↦ quiet_as a b calls _ closed.1.0 (
      b,
      (
        step_quiet wake a (call.accept 1 250 (accepted.Connection peer)) b (refl, (closed.0, e closed.1.1.1.0 ∙ ap (λ (x : Option ℕ). retried a x b.round) closed.1.1.1.1))
            (accepts_turn a r token calls 250 (accepted.Connection peer) b.round k t (q ∙ ap (λ (cs : List Call). record r { watch = marked_by_all r.watch cs }) closed.1.0)),
        one_quiet wake b (call.close 250) b (refl, refl) refl,
      ),
    )
  ]

  accepts_quiet : (hears : Bool) (a : Edge) (r : Round) (token : ℕ) (b : Edge) (calls : List Call) → a.hears ≡ hears → place_at token ≡ place.Listener → 1 ≡ token → TakesOrTries (IsLate a) a.round token r → Accepts hears a.seats a.next_conn a.clock a.retry calls step.Nothing b.seats b.retry → (b.seats ≡ a.seats → b ≡ retried a b.retry b.round) → b.round ≡ record r { watch = marked_by_all r.watch calls } → Quiet wake a calls b
  accepts_quiet true a r token b calls heard at k t h e q = accept_quiet h.0 a r token b calls k t h.1 e q
  accepts_quiet false a r token b calls heard at k t h e q =
      let same : b ≡ record a { round = b.round } = e h.1.1.0 ∙ ap (λ (x : Option ℕ). retried a x b.round) h.1.1.1 in
      let still : b.round ≡ r = q ∙ ap (λ (cs : List Call). record r { watch = marked_by_all r.watch cs }) h.0 in
      elim t [
        | inl taken ↦ quiet_as a b calls [] h.0 (passed_over a b r token taken (subst (λ (x : Place). IsVacant a.hears a.seats a.links x) (sym at) heard) same still)
        | inr tried ↦ absurd (tried.0 (subst (λ (x : Bool). IsSoon x a.retry a.clock) (sym heard) tt))
      ]

  end_quiet : (settled : Bool) (index : ℕ) (a : Edge) (r : Round) (seat : Seat) (conn : Conn) (bytes : List ℕ) → Takes a.round (seat_socket index) r → slice_get a.seats index ≡ Some seat → seat.conn ≡ Some conn → is_settled conn.asked seat.backlog ≡ settled → step.Nothing ≡ (if settled then step.Last (plain_found kind.ConnDown) else step.Nothing) → Quiet wake a (call.read (seat_socket index) part.End bytes ∷ []) (placed a index (record { conn = Some (record conn { ended = true }); backlog = seat.backlog }) r)
  end_quiet true index a r seat conn bytes t there is settled p = cc
  end_quiet false index a r seat conn bytes t there is settled p =
      one_quiet wake a (call.read (seat_socket index) part.End bytes) (placed a index (record { conn = Some (record conn { ended = true }); backlog = seat.backlog }) r)
      (index, seat, conn, (there, (is, (refl, (settled, refl))))) t

  conn_part_quiet : (answer : Part) (index : ℕ) (a : Edge) (r : Round) (seat : Seat) (conn : Conn) (bytes : List ℕ) → Takes a.round (seat_socket index) r → slice_get a.seats index ≡ Some seat → seat.conn ≡ Some conn → step.Nothing ≡ conn_step conn.asked seat.backlog answer → Quiet wake a (call.read (seat_socket index) answer bytes ∷ []) (placed a index (record { conn = Some (conn_after conn answer bytes); backlog = seat.backlog }) r)
  conn_part_quiet part.Nothing index a r seat conn bytes t there is p =
      one_quiet wake a (call.read (seat_socket index) part.Nothing bytes) (placed a index (record { conn = Some conn; backlog = seat.backlog }) r)
      (placed_same a index seat (record { conn = Some conn; backlog = seat.backlog }) r there (ap (λ (c : Option Conn). record { conn = c; backlog = seat.backlog }) (sym is))) t
  conn_part_quiet (part.Bytes len) index a r seat conn bytes t there is p = cc
  conn_part_quiet part.End index a r seat conn bytes t there is p = end_quiet (is_settled conn.asked seat.backlog) index a r seat conn bytes t there is refl p
  conn_part_quiet part.Failed index a r seat conn bytes t there is p = cc

  flush_quiet : (empty : Bool) (flush : Option ℕ) (index : ℕ) (seat : Seat) (conn : Conn) (a : Edge) (r : Round) (heard : List Call) (buffer : List ℕ) (after : Seat) → Takes a.round (seat_socket index) r → slice_get a.seats index ≡ Some seat → seat.conn ≡ Some conn → ReadsBehind (seat_socket index) conn (if empty then Some seat.backlog else left_by seat.backlog flush) (if empty then [] else call.write (seat_socket index) seat.backlog flush ∷ []) heard step.Nothing buffer after → Quiet wake a heard (placed a index after r)
  flush_quiet true flush index seat conn a r heard buffer after t there is h =
      quiet_as a (placed a index after r) heard _ h.1.0
      (subst (λ (x : Seat). Quiet wake a (call.read (seat_socket index) h.0 (part_bytes h.0 buffer) ∷ []) (placed a index x r)) (sym h.1.1.1)
      (conn_part_quiet h.0 index a r seat conn (part_bytes h.0 buffer) t there is h.1.1.0))
  flush_quiet false None index seat conn a r heard buffer after t there is h = let no = h.1 in (cc)
  flush_quiet false (Some taken) index seat conn a r heard buffer after t there is h =
      let left : Seat = record { conn = seat.conn; backlog = drop taken seat.backlog } in
      let m : Edge = placed a index left a.round in
      let read : Quiet wake m (call.read (seat_socket index) h.0 (part_bytes h.0 buffer) ∷ []) (placed m index (record { conn = Some (conn_after conn h.0 (part_bytes h.0 buffer)); backlog = drop taken seat.backlog }) r) =
      conn_part_quiet h.0 index m r left conn (part_bytes h.0 buffer) t (get_set a.seats index seat left there) is h.1.1.0 in
      quiet_as a (placed a index after r) heard _ h.1.0 (
        m,
        (
          step_quiet wake a (call.write (seat_socket index) seat.backlog (Some taken)) m (index, seat, taken, (there, (refl, (refl, (refl, refl))))) (t.0, refl),
          subst (λ (x : Seat). Quiet wake m (call.read (seat_socket index) h.0 (part_bytes h.0 buffer) ∷ []) (placed a index x r)) (sym h.1.1.1)
              (subst (λ (x : Edge). Quiet wake m (call.read (seat_socket index) h.0 (part_bytes h.0 buffer) ∷ []) x) (placed_twice a index left _ a.round r) read),
        ),
      )

  failed_quiet : (failed : Bool) (index : ℕ) (seat : Seat) (conn : Conn) (a : Edge) (r : Round) (heard : List Call) (buffer : List ℕ) (after : Seat) → Takes a.round (seat_socket index) r → slice_get a.seats index ≡ Some seat → seat.conn ≡ Some conn → LooksAtConn (seat_socket index) conn seat.backlog failed heard step.Nothing buffer after → Quiet wake a heard (placed a index after r)
  failed_quiet true index seat conn a r heard buffer after t there is l = let no = l.1 in (cc)
  failed_quiet false index seat conn a r heard buffer after t there is l = flush_quiet (length seat.backlog == 0) l.0 index seat conn a r heard buffer after t there is l.1

  conn_quiet : (conn : Option Conn) (index : ℕ) (seat : Seat) (a : Edge) (r : Round) (token : ℕ) (heard : List Call) (id : ℕ) (buffer : List ℕ) (after : Seat) → place_at token ≡ place.Seat index → seat_socket index ≡ token → Takes a.round token r → slice_get a.seats index ≡ Some seat → seat.conn ≡ conn → LooksAtSeat (seat_socket index) seat conn heard id step.Nothing buffer after → Quiet wake a heard (placed a index after r)
  conn_quiet None index seat a r token heard id buffer after at k t there is l =
      let vacant : HasNoConn (slice_get a.seats index) = subst HasNoConn (sym there) is in
      quiet_as a (placed a index after r) heard [] l.0
      (passed_over a (placed a index after r) r token t (subst (λ (x : Place). IsVacant a.hears a.seats a.links x) (sym at) vacant) (placed_same a index seat after r there l.1.1) refl)
  conn_quiet (Some conn) index seat a r token heard id buffer after at k t there is l =
      failed_quiet conn.failed index seat conn a r heard buffer after (takes_here a.round r r (seat_socket index) token k t refl) there is l.1

  seat_quiet : (index : ℕ) (a : Edge) (r : Round) (token : ℕ) (calls : List Call) (id : ℕ) (buffer : List ℕ) (b : Edge) → place_at token ≡ place.Seat index → seat_socket index ≡ token → Takes a.round token r → HearsSeat index a.seats calls id step.Nothing buffer b.seats → b ≡ record a { seats = b.seats; round = b.round } → b.round ≡ r → Quiet wake a calls b
  seat_quiet index a r token calls id buffer b at k t h e q = elim h [
    | inl none ↦
        let vacant : HasNoConn (slice_get a.seats index) = subst HasNoConn (sym none.1.1.1) tt in
        quiet_as a b calls [] none.0
        (passed_over a b r token t (subst (λ (x : Place). IsVacant a.hears a.seats a.links x) (sym at) vacant) (e ∙ ap (λ (seats : List Seat). record a { seats = seats; round = b.round }) none.1.1.0) q)
    | inr there ↦
        let l = there.1 in
        let heard : Quiet wake a l.heard (placed a index l.after r) = conn_quiet there.0.conn index there.0 a r token l.heard id buffer l.after at k t l.there refl l.looks in
        let all : calls ≡ l.heard = l.whole ∙ ap (λ cs. l.heard ++ cs) l.goes.0 ∙ append-nil l.heard in
        let same : b ≡ placed a index l.after r =
        e ∙ (ap (λ (seats : List Seat). record a { seats = seats; round = b.round }) l.goes.1 ∙ ap (λ (x : Round). placed a index l.after x) q) in
        subst (λ (x : Edge). Quiet wake a calls x) (sym same) (quiet_as a (placed a index l.after r) calls l.heard all heard)
  ]

  datagrams_quiet : (answer : Received) (socket : ℕ) (a : Edge) (r : Round) (bytes : List ℕ) → Takes a.round socket r → step.Nothing ≡ datagram_step answer → Quiet wake a (call.receive socket answer bytes ∷ []) (record a { round = r })
  datagrams_quiet received.Nothing socket a r bytes t p = one_quiet wake a (call.receive socket received.Nothing bytes) (record a { round = r }) (tt, refl) t
  datagrams_quiet (received.Datagram letter) socket a r bytes t p = cc
  datagrams_quiet received.Failed socket a r bytes t p = cc

  standing_quiet : (answer : Standing) (socket : ℕ) (a : Edge) (r : Round) → Takes a.round socket r → step.Nothing ≡ standing_step answer → Quiet wake a (call.stands socket answer ∷ []) (record a { round = r })
  standing_quiet standing.NotYet socket a r t p = one_quiet wake a (call.stands socket standing.NotYet) (record a { round = r }) (tt, refl) t
  standing_quiet standing.Stands socket a r t p = cc
  standing_quiet standing.Failed socket a r t p = cc

  read_quiet : (answer : Part) (socket : ℕ) (server : List ℕ) (a : Edge) (r : Round) (bytes : List ℕ) → Takes a.round socket r → step.Nothing ≡ part_step server answer → Quiet wake a (call.read socket answer bytes ∷ []) (record a { round = r })
  read_quiet part.Nothing socket server a r bytes t p = one_quiet wake a (call.read socket part.Nothing bytes) (record a { round = r }) refl t
  read_quiet (part.Bytes len) socket server a r bytes t p = cc
  read_quiet part.End socket server a r bytes t p = cc
  read_quiet part.Failed socket server a r bytes t p = cc

  missing_loud : (cause : NoSocket) (socket : ℕ) (server : List ℕ) (a b : Edge) (calls : List Call) (buffer : List ℕ) → HearsWay socket server (Missing cause) calls step.Nothing buffer → Quiet wake a calls b
  missing_loud no_socket.PortTaken socket server a b calls buffer h = let no = h.1 in (cc)
  missing_loud no_socket.Full socket server a b calls buffer h = let no = h.1 in (cc)
  missing_loud no_socket.Failed socket server a b calls buffer h = let no = h.1 in (cc)

  way_quiet : (way : Way) (socket : ℕ) (server : List ℕ) (a : Edge) (r : Round) (calls : List Call) (buffer : List ℕ) → Takes a.round socket r → HearsWay socket server way calls step.Nothing buffer → Quiet wake a calls (record a { round = r })
  way_quiet Udp socket server a r calls buffer t h = quiet_as a (record a { round = r }) calls _ h.1.0 (datagrams_quiet h.0 socket a r (letter_bytes h.0 buffer) t h.1.1)
  way_quiet Connecting socket server a r calls buffer t h = quiet_as a (record a { round = r }) calls _ h.1.0 (standing_quiet h.0 socket a r t h.1.1)
  way_quiet Connected socket server a r calls buffer t h = quiet_as a (record a { round = r }) calls _ h.1.0 (read_quiet h.0 socket server a r (part_bytes h.0 buffer) t h.1.1)
  way_quiet (Missing cause) socket server a r calls buffer t h = missing_loud cause socket server a (record a { round = r }) calls buffer h

  link_quiet : (key : ℕ) (a : Edge) (r : Round) (token : ℕ) (calls : List Call) (id : ℕ) (buffer : List ℕ) (b : Edge) → place_at token ≡ place.Link key → link_socket key ≡ token → Takes a.round token r → LooksAt key a.links calls id step.Nothing buffer b.links → b ≡ record a { links = b.links; round = b.round } → b.round ≡ r → Quiet wake a calls b
  link_quiet key a r token calls id buffer b at k t h e q = elim h [
    | inl none ↦ quiet_as a b calls [] none.1.0
        (passed_over a b r token t (subst (λ (x : Place). IsVacant a.hears a.seats a.links x) (sym at) none.0) (same_links a b e none.1.1.1) q)
    | inr there ↦
        let l = there.1 in
        let heard : Quiet wake a l.heard (record a { round = r }) = way_quiet there.0.way (link_socket key) there.0.server a r l.heard buffer (takes_here a.round r r (link_socket key) token k t refl) l.hears in
        let all : calls ≡ l.heard = l.whole ∙ ap (λ cs. l.heard ++ cs) l.goes.0 ∙ append-nil l.heard in
        let same : b ≡ record a { round = r } = same_links a b e l.goes.1 ∙ ap (λ (x : Round). record a { round = x }) q in
        subst (λ (x : Edge). Quiet wake a calls x) (sym same) (quiet_as a (record a { round = r }) calls l.heard all heard)
  ]

  looks_quiet : (source : Place) (a : Edge) (r : Round) (token : ℕ) (calls : List Call) (id : ℕ) (buffer : List ℕ) (b : Edge) → place_at token ≡ source → token_at source ≡ token → TakesOrTries (IsLate a) a.round token r → Looks source (record a { round = r }) calls id step.Nothing buffer b → b.round ≡ record r { watch = look_marks source step.Nothing calls r.watch } → Quiet wake a calls b
  looks_quiet place.Datagrams a r token calls id buffer b at k t h q = requests_quiet a.hears a r token calls buffer b refl at k (in_turn a.round r token (λ e. omega arith) t) h.0 h.1.1 q
  looks_quiet place.Listener a r token calls id buffer b at k t h q = accepts_quiet a.hears a r token b calls refl at k t h.0 (λ seats. same_next a b h.1.1 h.1.0 seats) q
  looks_quiet (place.Seat index) a r token calls id buffer b at k t h q = seat_quiet index a r token calls id buffer b at k (in_turn a.round r token (λ e. omega arith) t) h.0 h.1 q
  looks_quiet (place.Link key) a r token calls id buffer b at k t h q = link_quiet key a r token calls id buffer b at k (in_turn a.round r token (λ e. omega arith) t) h.0 h.1 q

  -- A look at a source that was taken.
  pub looked_quiet : (e : ModelEvent) (token moment : ℕ) (a m : Edge) (calls : List Call) (b : Edge) → token ≤ 2 ^ 64 - 1 → m ≡ record a { round = m.round } → TakesOrTries (IsLate a) a.round token m.round → HearsAt false e token moment m calls b → Quiet wake a calls b
  looked_quiet e token moment a m calls b few same t h =
      looks_quiet (place_at token) a m.round token calls h.0 h.1 b refl (token_again token few) t
      (subst (λ (x : Edge). Looks (place_at token) x calls h.0 step.Nothing h.1 b) same h.2.0) h.2.1

  text_quiet : (text : List ℕ) (a : Edge) (calls : List Call) (log : Gathered) → text ≡ a.log.text → PrintsText text a.log calls log → Quiet wake a calls (record a { log = log })
  text_quiet [] a calls log e p =
      subst (λ (l : Gathered). Quiet wake a calls (record a { log = l })) (sym p.1) (quiet_as a a calls [] p.0 (no_pass a))
  text_quiet (x ∷ xs) a calls log e p =
      subst (λ (l : Gathered). Quiet wake a calls (record a { log = l })) (sym p.1.1)
      (quiet_as a (record a { log = after_print a.log p.0 }) calls _ p.1.0 (one_quiet wake a (call.print (x ∷ xs) p.0) (record a { log = after_print a.log p.0 }) (e, refl) refl))

  pub prints_quiet : (a : Edge) (calls : List Call) (log : Gathered) → PrintsAll a.log calls log → Quiet wake a calls (record a { log = log })
  prints_quiet a calls log p = text_quiet a.log.text a calls log refl p

  -- A state behind a wait, while what it found ready is asked for.
  abbrev asked_for : Edge → List ℕ → ℕ → Edge
  asked_for a ready asking = record a { round = record { watch = record a.round.watch { ready = ready }; asking = asking } }

  abbrev no_tokens : List ℕ
  no_tokens = []

  told_quiet : (tokens : List ℕ) (n : ℕ) (a : Edge) → length tokens ≤ n → Quiet wake (asked_for a a.round.watch.ready n) (told_ready tokens) (asked_for a (marked_each a.round.watch.ready tokens) (n - length tokens))
  told_quiet [] n a few =
      let same : n ≡ n - length no_tokens = omega arith in
      subst (λ (k : ℕ). Quiet wake (asked_for a a.round.watch.ready n) [] (asked_for a a.round.watch.ready k)) same (no_pass (asked_for a a.round.watch.ready n))
  told_quiet (token ∷ tokens) n a few =
      let m : Edge = asked_for a (marked a.round.watch.ready token) (n - 1) in
      let rest : Quiet wake m (told_ready tokens) (asked_for a (marked_each (marked a.round.watch.ready token) tokens) (n - 1 - length tokens)) =
      told_quiet tokens (n - 1) m (omega arith) in
      let same : n - 1 - length tokens ≡ n - length (token ∷ tokens) = omega arith in (
        m,
        (
          step_quiet wake (asked_for a a.round.watch.ready n) (call.ready (Some token)) m refl (omega arith, refl),
          subst (λ (k : ℕ). Quiet wake m (told_ready tokens) (asked_for a (marked_each (marked a.round.watch.ready token) tokens) k)) same rest,
        ),
      )

  asks_quiet : (a : Edge) (calls : List Call) (after : List ℕ) → Asks a.round.watch.ready calls after → Quiet wake (asked_for a a.round.watch.ready 250) calls (asked_for a after 0)
  asks_quiet a calls after h =
      let end : Edge = asked_for a (marked_each a.round.watch.ready h.0) 0 in
      subst (λ (l : List ℕ). Quiet wake (asked_for a a.round.watch.ready 250) calls (asked_for a l 0)) (sym h.1.0) (elim h.1.1 [
        | inl some ↦
            let few : length h.0 < 250 = some.1 in
            let m : Edge = asked_for a (marked_each a.round.watch.ready h.0) (250 - length h.0) in
            quiet_as (asked_for a a.round.watch.ready 250) end calls _ some.0
            (quiet_append (asked_for a a.round.watch.ready 250) m end (told_ready h.0) (call.ready None ∷ []) (told_quiet h.0 250 a (omega arith))
            (one_quiet wake m (call.ready None) end refl (omega arith, refl)))
        | inr all ↦
            let most : length h.0 ≡ 250 = all.1 in
            let none : 250 - length h.0 ≡ 0 = omega arith in
            quiet_as (asked_for a a.round.watch.ready 250) end calls _ all.0
            (subst (λ (k : ℕ). Quiet wake (asked_for a a.round.watch.ready 250) (told_ready h.0) (asked_for a (marked_each a.round.watch.ready h.0) k)) none (told_quiet h.0 250 a (omega arith)))
      ])

  -- The state behind a wait.
  abbrev pub waited : Edge → Watched → Edge
  waited a watch = record a { clock = None; round = round_of watch }

  pub waits_quiet : (a : Edge) (pause : Option ℕ) (ok : Bool) (calls : List Call) (after : Watched) → WaitsInTime wake a pause → next_token a.round.watch ≡ None → Waits pause ok a.round.watch calls after → Quiet wake a calls (waited a after)
  waits_quiet a pause false calls after t last w =
      subst (λ (x : Watched). Quiet wake a calls (waited a x)) (sym w.1)
      (quiet_as a (waited a (renewed a.round.watch)) calls _ w.0 (one_quiet wake a (call.wait pause false) (waited a (renewed a.round.watch)) (t, refl) (last, refl)))
  waits_quiet a pause true calls after t last w =
      let m : Edge = record a { clock = None; round = record { watch = renewed a.round.watch; asking = 250 } } in
      subst (λ (x : Watched). Quiet wake a calls (waited a x)) (sym w.1.1.0)
      (quiet_as a (waited a (record (renewed a.round.watch) { ready = after.ready })) calls _ w.1.0
      (m, (step_quiet wake a (call.wait pause true) m (t, refl) (last, refl), asks_quiet m w.0 after.ready w.1.1.1)))

  -- An event that a look found behind the reading of the clock.
  pub hears_found : (e : ModelEvent) (a : Edge) (moment : ℕ) (calls : List Call) (b : Edge) → a.round.asking ≡ 0 → a.log.failed ≡ false → IsSoon b.hears b.retry b.clock → HearsSome wake true e (record a { clock = Some moment }) calls b → Hears wake e a (call.now (Some moment) ∷ calls) (record b { clock = None })
  hears_found e a moment calls b asked written tried h = record {
    between = h.0;
    after = b;
    before = call.now (Some moment) ∷ h.1;
    last = h.2;
    whole = ap (λ cs. call.now (Some moment) ∷ cs) h.3.0;
    quiet = (record a { clock = Some moment }, (now_step wake a (Some moment) asked, h.3.1.0));
    written = ap (λ (l : Gathered). l.failed) h.3.1.1.0 ∙ written;
    heard = inl h.3.1.1.1;
    tried = tried;
    left = refl;
  }

  -- A Tick behind looks that found nothing.
  abbrev pub ticked : Edge → Edge
  ticked b = record b { round = record b.round { watch = record b.round.watch { ticked = true } } }

  pub hears_tick : (e : ModelEvent) (a : Edge) (moment : ℕ) (calls : List Call) (b : Edge) → a.round.asking ≡ 0 → b.log.failed ≡ false → IsSoon b.hears b.retry b.clock → b.clock ≡ Some moment → next_token b.round.watch ≡ None → b.round.watch.ticked ≡ false → Quiet wake (record a { clock = Some moment }) calls b → is_reached wake moment ≡ true → e ≡ event_found moment 0 (plain_found kind.Tick) [] → Hears wake e a (call.now (Some moment) ∷ calls) (record (ticked b) { clock = None })
  hears_tick e a moment calls b asked written tried clock last first quiet due event = record {
    between = b;
    after = ticked b;
    before = call.now (Some moment) ∷ calls;
    last = [];
    whole = ap (λ cs. call.now (Some moment) ∷ cs) (sym (append-nil calls));
    quiet = (record a { clock = Some moment }, (now_step wake a (Some moment) asked, quiet));
    written = written;
    heard = inr (record { moment = moment; none = refl; clock = clock; due = due; last = last; first = first; event = event; left = refl });
    tried = tried;
    left = refl;
  }

  -- What comes behind quiet calls.
  pub hears_later : (e : ModelEvent) (a m : Edge) (xs ys : List Call) (b : Edge) → Quiet wake a xs m → Hears wake e m ys b → Hears wake e a (xs ++ ys) b
  hears_later e a m xs ys b q h = record {
    between = h.between;
    after = h.after;
    before = xs ++ h.before;
    last = h.last;
    whole = ap (λ cs. xs ++ cs) h.whole ∙ sym (append_assoc xs h.before h.last);
    quiet = quiet_append a m h.between xs h.before q h.quiet;
    written = h.written;
    heard = h.heard;
    tried = h.tried;
    left = h.left;
  }

  pub fails_later : (a m : Edge) (xs ys : List Call) (b : Edge) → Quiet wake a xs m → Fails wake m ys b → Fails wake a (xs ++ ys) b
  fails_later a m xs ys b q f = record {
    between = f.between;
    quiet = quiet_append a m f.between xs ys q f.quiet;
    why = failed_later f.between xs ys f.why;
    left = f.left;
  }

  -- The rest of a turn: the log fails, or the world waits.
  pub rest_fails : (a : Edge) (calls : List Call) (log after : Gathered) → PrintsAll a.log calls log → log.failed ≡ true → after ≡ record log { failed = false } → Fails wake a calls (record a { log = after; clock = None })
  rest_fails a calls log after p failed e = record {
    between = record a { log = log };
    quiet = prints_quiet a calls log p;
    why = inl failed;
    left = ap (λ (l : Gathered). record a { log = l; clock = None }) e;
  }

  pub rest_waits : (a : Edge) (xs ys : List Call) (log : Gathered) (pause : Option ℕ) (ok : Bool) (after : Watched) → WaitsInTime wake (record a { log = log }) pause → next_token a.round.watch ≡ None → PrintsAll a.log xs log → Waits pause ok a.round.watch ys after → Quiet wake a (xs ++ ys) (waited (record a { log = log }) after)
  rest_waits a xs ys log pause ok after t last p w =
      quiet_append a (record a { log = log }) (waited (record a { log = log }) after) xs ys (prints_quiet a xs log p) (waits_quiet (record a { log = log }) pause ok ys after t last w)

  pub rest_breaks : (a : Edge) (xs ys : List Call) (log : Gathered) (pause : Option ℕ) (after : Watched) → WaitsInTime wake (record a { log = log }) pause → next_token a.round.watch ≡ None → PrintsAll a.log xs log → log.failed ≡ false → Waits pause false a.round.watch ys after → Fails wake a (xs ++ ys) (waited (record a { log = log }) after)
  rest_breaks a xs ys log pause after t last p fine w = record {
    between = waited (record a { log = log }) after;
    quiet = rest_waits a xs ys log pause false after t last p w;
    why = inr (xs, inr (pause, ap (λ cs. xs ++ cs) w.0));
    left = ap (λ (l : Gathered). waited (record a { log = l }) after) (calm log fine);
  }

  -- A turn that fails at once: the log has failed, or the clock can't be read.
  pub turn_fails : (a : Edge) (after : Gathered) → a.clock ≡ None → a.log.failed ≡ true → after ≡ record a.log { failed = false } → Fails wake a [] (record a { log = after })
  turn_fails a after clock failed e = record {
    between = a;
    quiet = no_pass a;
    why = inl failed;
    left = ap (λ (l : Gathered). record a { log = l }) e ∙ ap (λ (c : Option ℕ). record a { log = record a.log { failed = false }; clock = c }) clock;
  }

  pub turn_blind : (a : Edge) → a.round.asking ≡ 0 → a.log.failed ≡ false → a.clock ≡ None → Fails wake a (call.now None ∷ []) a
  turn_blind a asked fine clock = record {
    between = record a { clock = None };
    quiet = (record a { clock = None }, (now_step wake a None asked, no_pass (record a { clock = None })));
    why = inr ([], inl refl);
    left = ap (λ (l : Gathered). record a { log = l }) (calm a.log fine) ∙ ap (λ (c : Option ℕ). record a { log = record a.log { failed = false }; clock = c }) clock;
  }

  -- A turn that looks, hears nothing and rests.
  pub turn_rests : (t : Turn) (e : ModelEvent) (a m : Edge) (moment : ℕ) (xs ys : List Call) (b : Edge) → a.round.asking ≡ 0 → Quiet wake (record a { clock = Some moment }) xs m → Rests wake t m ys b → b.log.failed ≡ false → Turns wake t e a (call.now (Some moment) ∷ (xs ++ ys)) b
  turn_rests turn.Event e a m moment xs ys b asked q r fine = absurd r
  turn_rests turn.Nothing e a m moment xs ys b asked q r fine =
      ((record a { clock = Some moment }, (now_step wake a (Some moment) asked, quiet_append (record a { clock = Some moment }) m b xs ys q r)), fine)
  turn_rests turn.Failed e a m moment xs ys b asked q r fine =
      fails_later a m (call.now (Some moment) ∷ xs) ys b (record a { clock = Some moment }, (now_step wake a (Some moment) asked, q)) r

  -- A look at the listener where a try is overdue, and one at a source in its turn.
  pub tried_one : (heard : Bool) (e : ModelEvent) (token moment : ℕ) (a : Edge) (calls : List Call) (b : Edge) → token ≡ 1 → IsLate a → a.clock ≡ Some moment → HearsAt heard e token moment a calls b → HearsOne wake heard e a calls b
  tried_one true e token moment a calls b one late clock h = found_finds e token moment a a calls b clock refl (inr (late, (one, refl))) h
  tried_one false e token moment a calls b one late clock h = looked_quiet e token moment a a calls b (omega arith) refl (inr (late, (one, refl))) h

  pub taken_one : (heard : Bool) (e : ModelEvent) (token moment : ℕ) (a : Edge) (w : Watched) (calls : List Call) (b : Edge) → token ≤ 2 ^ 64 - 1 → next_token a.round.watch ≡ Some token → w ≡ without_token a.round.watch → a.clock ≡ Some moment → HearsAt heard e token moment (record a { round = record a.round { watch = w } }) calls b → HearsOne wake heard e a calls b
  taken_one true e token moment a w calls b few next rest clock h =
      found_finds e token moment a (record a { round = record a.round { watch = w } }) calls b clock refl (inl (next, ap (λ (x : Watched). record a.round { watch = x }) rest)) h
  taken_one false e token moment a w calls b few next rest clock h =
      looked_quiet e token moment a (record a { round = record a.round { watch = w } }) calls b few refl (inl (next, ap (λ (x : Watched). record a.round { watch = x }) rest)) h

  -- Looks behind quiet ones.
  pub one_later : (heard : Bool) (e : ModelEvent) (a m : Edge) (xs ys : List Call) (b : Edge) → Quiet wake a xs m → m.log ≡ a.log → HearsOne wake heard e m ys b → HearsSome wake heard e a (xs ++ ys) b
  one_later true e a m xs ys b q l h = (m, xs, ys, (refl, (q, (l, h))))
  one_later false e a m xs ys b q l h = quiet_append a m b xs ys q h

  pub one_alone : (heard : Bool) (e : ModelEvent) (a : Edge) (ys : List Call) (b : Edge) → HearsOne wake heard e a ys b → HearsSome wake heard e a ys b
  one_alone heard e a ys b h = one_later heard e a a [] ys b (no_pass a) refl h

  pub some_later : (heard : Bool) (e : ModelEvent) (a m : Edge) (xs ys : List Call) (b : Edge) → Quiet wake a xs m → m.log ≡ a.log → HearsSome wake heard e m ys b → HearsSome wake heard e a (xs ++ ys) b
  some_later true e a m xs ys b q l h =
      (h.0, xs ++ h.1, h.2, (ap (λ cs. xs ++ cs) h.3.0 ∙ sym (append_assoc xs h.1 h.2), (quiet_append a m h.0 xs h.1 q h.3.1.0, (h.3.1.1.0 ∙ l, h.3.1.1.1))))
  some_later false e a m xs ys b q l h = quiet_append a m b xs ys q h
