-- What is made of one event more: an event that had come, or none.
use Rattle.std.specs.Prelude.{◌≡◌, ℕ, Bool, true, false, List, [], ◌∷◌, ◌++◌, if◌then◌else◌, length, ◌==◌, refl}
use Rattle.std.proofs.Common.{inl, inr, sym, subst, ap}
use Rattle.std.specs.declared.option.Option.{Option}
use Rattle.std.specs.declared.option.Option.TheVariants.{None, Some}
use Rattle.slab.specs.Slab.{Slab}
use Rattle.dc_model.specs.Event.{Event as ModelEvent}
use Rattle.dc_system.specs.Call.{Call}
use Rattle.dc_system.specs.Call as call
use Rattle.dc_system.specs.declared.answers.Accepted.{Accepted}
use Rattle.dc_system.specs.declared.answers.Accepted.TheVariants as accepted
use Rattle.dc_sock.specs.declared.found.Step.{Step}
use Rattle.dc_sock.specs.declared.found.Step.TheVariants as step
use Rattle.dc_sock.specs.declared.link.Link.{Link}
use Rattle.dc_sock.specs.declared.link.Way.{Way}
use Rattle.dc_sock.specs.declared.link.Way.TheVariants.{Udp, Connecting, Connected, Missing}
use Rattle.dc_sock.specs.declared.place.Place.{Place}
use Rattle.dc_sock.specs.declared.place.Place.TheVariants as place
use Rattle.dc_sock.specs.declared.seat.Conn.{Conn}
use Rattle.dc_sock.specs.declared.seat.Seat.{Seat}
use Rattle.dc_sock.specs.ClientCalls.{HearsRequests, AcceptGives, Accepts, HearsSeat, GoesSeat}
use Rattle.dc_sock.specs.Edge.{Edge, IsAtHand, AreAtHand, Looks, HearsAt, HearsSome, NoneCame}
use Rattle.dc_sock.specs.LinkCalls.{close_calls, HearsWay}
use Rattle.dc_sock.specs.Links.{Goes, LooksAt, link_socket}
use Rattle.dc_sock.specs.Moment.{IsSoon}
use Rattle.dc_sock.specs.Place.{place_at}
use Rattle.dc_sock.specs.Ready.{next_token}
use Rattle.dc_sock.specs.SeatCalls.{ReadsBehind, LooksAtConn, LooksAtSeat}
use Rattle.dc_sock.specs.World.{MoreGave}
use Rattle.dc_sock.proofs.EdgeLemmas.{hears_found}
use Rattle.dc_sock.proofs.RoundLemmas.{no_pass, now_step}
use Rattle.dc_sock.proofs.SeatLemmas.{each_append}

pub at_hand_both : (xs ys : List Call) → AreAtHand xs → AreAtHand ys → AreAtHand (xs ++ ys)
at_hand_both xs ys p q = each_append IsAtHand xs ys p q

hand_as : (calls xs : List Call) → calls ≡ xs → AreAtHand xs → AreAtHand calls
hand_as calls xs e p = subst AreAtHand (sym e) p

-- Each look neither waits nor prints.
requests_hand : (hears : Bool) (calls : List Call) (gave : Step) (buffer : List ℕ) → HearsRequests hears calls gave buffer → AreAtHand calls
requests_hand true calls gave buffer h = hand_as calls _ h.1.0 (tt, tt)
requests_hand false calls gave buffer h = hand_as calls [] h.0 tt

accept_hand : (answer : Accepted) (old : List Seat) (next : ℕ) (clock : Option ℕ) (calls : List Call) (gave : Step) (new : List Seat) (retry : Option ℕ) → AcceptGives answer old next clock calls gave new retry → AreAtHand calls
accept_hand accepted.Nothing old next clock calls gave new retry h = hand_as calls _ h.1.0 (tt, tt)
accept_hand accepted.Aborted old next clock calls gave new retry h = hand_as calls _ h.1.0 (tt, tt)
accept_hand accepted.Failed old next clock calls gave new retry h = hand_as calls _ h.1.0 (tt, tt)
accept_hand (accepted.Connection peer) old next clock calls gave new retry h = elim h [
  | inl kept ↦ hand_as calls _ kept.2.1.1.0 (tt, tt)
  | inr closed ↦ hand_as calls _ closed.1.0 (tt, (tt, tt))
]

accepts_hand : (hears : Bool) (old : List Seat) (next : ℕ) (clock before : Option ℕ) (calls : List Call) (gave : Step) (new : List Seat) (retry : Option ℕ) → Accepts hears old next clock before calls gave new retry → AreAtHand calls
accepts_hand true old next clock before calls gave new retry h = accept_hand h.0 old next clock calls gave new retry h.1
accepts_hand false old next clock before calls gave new retry h = hand_as calls [] h.0 tt

flushed_hand : (empty : Bool) (socket : ℕ) (bytes : List ℕ) (flush : Option ℕ) → AreAtHand (if empty then [] else call.write socket bytes flush ∷ [])
flushed_hand true socket bytes flush = tt
flushed_hand false socket bytes flush = (tt, tt)

reads_hand : (rest : Option (List ℕ)) (socket : ℕ) (conn : Conn) (flushed calls : List Call) (gave : Step) (buffer : List ℕ) (new : Seat) → AreAtHand flushed → ReadsBehind socket conn rest flushed calls gave buffer new → AreAtHand calls
reads_hand None socket conn flushed calls gave buffer new s r = hand_as calls flushed r.0 s
reads_hand (Some rest) socket conn flushed calls gave buffer new s r = hand_as calls _ r.1.0 (at_hand_both flushed _ s (tt, tt))

conn_hand : (failed : Bool) (socket : ℕ) (conn : Conn) (waiting : List ℕ) (calls : List Call) (gave : Step) (buffer : List ℕ) (new : Seat) → LooksAtConn socket conn waiting failed calls gave buffer new → AreAtHand calls
conn_hand true socket conn waiting calls gave buffer new l = hand_as calls [] l.0 tt
conn_hand false socket conn waiting calls gave buffer new l = reads_hand _ socket conn _ calls gave buffer new (flushed_hand (length waiting == 0) socket waiting l.0) l.1

seat_hand : (conn : Option Conn) (socket : ℕ) (seat : Seat) (calls : List Call) (number : ℕ) (gave : Step) (buffer : List ℕ) (new : Seat) → LooksAtSeat socket seat conn calls number gave buffer new → AreAtHand calls
seat_hand None socket seat calls number gave buffer new l = hand_as calls [] l.0 tt
seat_hand (Some conn) socket seat calls number gave buffer new l = conn_hand conn.failed socket conn seat.backlog calls gave buffer new l.1

goes_seat_hand : (gave : Step) (index : ℕ) (after : Seat) (old : List Seat) (calls : List Call) (new : List Seat) → GoesSeat gave index after old calls new → AreAtHand calls
goes_seat_hand step.Nothing index after old calls new h = hand_as calls [] h.0 tt
goes_seat_hand (step.Event found) index after old calls new h = hand_as calls [] h.0 tt
goes_seat_hand (step.Last found) index after old calls new h = hand_as calls _ h.0 (tt, tt)

seats_hand : (index : ℕ) (old : List Seat) (calls : List Call) (number : ℕ) (gave : Step) (buffer : List ℕ) (new : List Seat) → HearsSeat index old calls number gave buffer new → AreAtHand calls
seats_hand index old calls number gave buffer new h = elim h [
  | inl none ↦ hand_as calls [] none.0 tt
  | inr there ↦
      let l = there.1 in
      hand_as calls _ l.whole (at_hand_both l.heard l.closed (seat_hand there.0.conn _ there.0 l.heard number gave buffer l.after l.looks) (goes_seat_hand gave index l.after old l.closed new l.goes))
]

close_hand : (way : Way) (socket : ℕ) → AreAtHand (close_calls socket way)
close_hand Udp socket = (tt, tt)
close_hand Connecting socket = (tt, tt)
close_hand Connected socket = (tt, tt)
close_hand (Missing cause) socket = tt

goes_hand : (gave : Step) (key : ℕ) (link : Link) (old : Slab Link) (calls : List Call) (new : Slab Link) → Goes gave key link old calls new → AreAtHand calls
goes_hand step.Nothing key link old calls new h = hand_as calls [] h.0 tt
goes_hand (step.Event found) key link old calls new h = hand_as calls [] h.0 tt
goes_hand (step.Last found) key link old calls new h = hand_as calls _ h.0 (close_hand link.way (link_socket key))

way_hand : (way : Way) (socket : ℕ) (server : List ℕ) (calls : List Call) (gave : Step) (buffer : List ℕ) → HearsWay socket server way calls gave buffer → AreAtHand calls
way_hand Udp socket server calls gave buffer h = hand_as calls _ h.1.0 (tt, tt)
way_hand Connecting socket server calls gave buffer h = hand_as calls _ h.1.0 (tt, tt)
way_hand Connected socket server calls gave buffer h = hand_as calls _ h.1.0 (tt, tt)
way_hand (Missing cause) socket server calls gave buffer h = hand_as calls [] h.0 tt

link_hand : (key : ℕ) (old : Slab Link) (calls : List Call) (number : ℕ) (gave : Step) (buffer : List ℕ) (new : Slab Link) → LooksAt key old calls number gave buffer new → AreAtHand calls
link_hand key old calls number gave buffer new h = elim h [
  | inl none ↦ hand_as calls [] none.1.0 tt
  | inr there ↦
      let l = there.1 in
      hand_as calls _ l.whole (at_hand_both l.heard l.closed (way_hand there.0.way (link_socket key) there.0.server l.heard gave buffer l.hears) (goes_hand gave key there.0 old l.closed new l.goes))
]

looks_hand : (source : Place) (a : Edge) (calls : List Call) (id : ℕ) (gave : Step) (buffer : List ℕ) (b : Edge) → Looks source a calls id gave buffer b → AreAtHand calls
looks_hand place.Datagrams a calls id gave buffer b h = requests_hand a.hears calls gave buffer h.0
looks_hand place.Listener a calls id gave buffer b h = accepts_hand a.hears a.seats a.next_conn a.clock a.retry calls gave b.seats b.retry h.0
looks_hand (place.Seat index) a calls id gave buffer b h = seats_hand index a.seats calls id gave buffer b.seats h.0
looks_hand (place.Link key) a calls id gave buffer b h = link_hand key a.links calls id gave buffer b.links h.0

pub heard_at_hand : (heard : Bool) (e : ModelEvent) (token moment : ℕ) (a : Edge) (calls : List Call) (b : Edge) → HearsAt heard e token moment a calls b → AreAtHand calls
heard_at_hand true e token moment a calls b h = looks_hand (place_at token) a calls h.0 h.1 h.3 b h.4.0
heard_at_hand false e token moment a calls b h = looks_hand (place_at token) a calls h.0 step.Nothing h.1 b h.2.0

-- None came: the log has failed, the clock can't be read, or nothing was heard of the sources.
pub further_idle : (a : Edge) → a.clock ≡ None → a.log.failed ≡ true → NoneCame a [] a
further_idle a clock failed = record {
  between = a;
  quiet = no_pass a;
  at_hand = tt;
  why = inl (failed, refl);
  left = ap (λ (c : Option ℕ). record a { clock = c }) clock;
}

pub further_blind : (a : Edge) → a.clock ≡ None → a.round.asking ≡ 0 → NoneCame a (call.now None ∷ []) a
further_blind a clock asked = record {
  between = record a { clock = None };
  quiet = (record a { clock = None }, (now_step None a None asked, no_pass (record a { clock = None })));
  at_hand = (tt, tt);
  why = inr (inl refl);
  left = ap (λ (c : Option ℕ). record a { clock = c }) clock;
}

pub further_gave : (heard : Bool) (e : ModelEvent) (a : Edge) (moment : ℕ) (calls : List Call) (b : Edge) → a.round.asking ≡ 0 → a.log.failed ≡ false → IsSoon b.hears b.retry b.clock → (heard ≡ false → next_token b.round.watch ≡ None) → HearsSome None heard e (record a { clock = Some moment }) calls b → AreAtHand calls → MoreGave heard e a (call.now (Some moment) ∷ calls) (record b { clock = None })
further_gave true e a moment calls b asked fine tried last h hand = (hears_found None e a moment calls b asked fine tried h, (tt, hand))
further_gave false e a moment calls b asked fine tried last h hand = record {
  between = b;
  quiet = (record a { clock = Some moment }, (now_step None a (Some moment) asked, h));
  at_hand = (tt, hand);
  why = inr (inr (last refl, tried));
  left = refl;
}
