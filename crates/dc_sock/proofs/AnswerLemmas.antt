-- Each connection that comes in a run gets its replies.
use Rattle.std.specs.Prelude.{◌≡◌, ◌⊎◌, ◌<◌, ◌-◌, ◌^◌, ℕ, Bool, true, false, if◌then◌else◌, List, [], ◌∷◌, ◌++◌, slice_get, slice_set, length, replicate, refl}
use Rattle.std.proofs.Common.{inl, inr, sym, subst, ◌∙◌, ap, append_assoc, arith, zero, suc}
use Rattle.std.proofs.lemmas.List.{append-nil, length-set}
use Rattle.std.proofs.lemmas.Bool.Decides.{eqb_tells}
use Rattle.std.specs.declared.option.Option.{Option}
use Rattle.std.specs.declared.option.Option.TheVariants.{None, Some}
use Rattle.dc_model.specs.Event.{Event as ModelEvent, Kind, tick, request, datagram, link_up, link_bytes, link_down, bind_refused, conn_up, conn_bytes, conn_down}
use Rattle.dc_event.specs.Causes.{counted}
use Rattle.dc_event.specs.History.{Answer, Exchange, listened, asked, gathered, did}
use Rattle.dc_event.specs.History as history
use Rattle.dc_engine.specs.View.{kind_of}
use Rattle.dc_system.specs.Call.{Call}
use Rattle.dc_system.specs.Call as call
use Rattle.dc_system.specs.declared.answers.Accepted.{Accepted}
use Rattle.dc_system.specs.declared.answers.Accepted.TheVariants as accepted
use Rattle.dc_system.specs.declared.answers.NoSocket.{NoSocket}
use Rattle.dc_system.specs.declared.answers.NoSocket.TheVariants as no_socket
use Rattle.dc_system.specs.declared.answers.Part.{Part}
use Rattle.dc_system.specs.declared.answers.Part.TheVariants as part
use Rattle.dc_system.specs.declared.answers.Peer.{Peer}
use Rattle.dc_system.specs.declared.answers.Received.{Received}
use Rattle.dc_system.specs.declared.answers.Received.TheVariants as received
use Rattle.dc_system.specs.declared.answers.Standing.{Standing}
use Rattle.dc_system.specs.declared.answers.Standing.TheVariants as standing
use Rattle.dc_engine.specs.declared.events.Kind.TheVariants as kind
use Rattle.dc_sock.specs.declared.asked.Asked.{Asked}
use Rattle.dc_sock.specs.declared.found.Found.{Found}
use Rattle.dc_sock.specs.declared.found.Step.{Step}
use Rattle.dc_sock.specs.declared.found.Step.TheVariants as step
use Rattle.dc_sock.specs.declared.link.Way.{Way}
use Rattle.dc_sock.specs.declared.link.Way.TheVariants.{Udp, Connecting, Connected, Missing}
use Rattle.dc_sock.specs.declared.place.Place.{Place}
use Rattle.dc_sock.specs.declared.place.Place.TheVariants as place
use Rattle.dc_sock.specs.declared.seat.Conn.{Conn}
use Rattle.dc_sock.specs.declared.seat.Seat.{Seat}
use Rattle.dc_sock.specs.Asked.{none_asked, is_settled}
use Rattle.dc_sock.specs.Found.{plain_found}
use Rattle.dc_sock.specs.Numbers.{StepNumbers, IsOther, Others}
use Rattle.dc_sock.specs.ClientCalls.{request_step, HearsRequests, AcceptGives, Accepts, seat_socket}
use Rattle.dc_sock.specs.Edge.{Edge, Quiet, Looks, IsFound, Finds, Ticks, Hears, NoneCame}
use Rattle.dc_sock.specs.Passed.{Passed, exchanged, none_came, exchanges_of}
use Rattle.dc_sock.specs.LinkCalls.{datagram_step, standing_step, part_step, missing_step, HearsWay}
use Rattle.dc_sock.specs.Links.{link_socket}
use Rattle.dc_sock.specs.SeatCalls.{new_seat, free_seat, conn_step, flush_rest, ReadsBehind, LooksAtConn, LooksAtSeat}
use Rattle.dc_sock.specs.Streams.{takes, reply_to, replied_in, replies_to, IsAnswered, UpIsAnswered, SaidIsAnswered, IsAnsweredBehind, PassedIsAnswered, joined, AllAnswered, IsNumbered}
use Rattle.dc_sock.specs.World.{Shown, IsFresh, Gave, Explains, Accounts, Accounted, Explained}
use Rattle.dc_sock.specs.Place.{place_at}
use Rattle.dc_sock.proofs.RoundLemmas.{passes_same}
use Rattle.dc_sock.proofs.PlaceLemmas.{Steps, all_as, rest_steps, quiet_steps, looks_steps, hearing_miss, makes_steps}
use Rattle.dc_sock.proofs.StreamLemmas.{get_set, get_other, Lives, lives_as, Reaches, move_lives, reach_then, move_numbered, numbered_as}

abbrev LivesIn : (index number : ℕ) (t : List Call) (g : List ℕ) → Edge → Type 0
LivesIn index number t g e = Lives index number t g e.seats e.next_conn

abbrev ReachesIn : (index number : ℕ) (t : List Call) (g : List ℕ) → List Call → Edge → Type 0
ReachesIn index number t g calls e = Reaches index number t g calls e.seats e.next_conn

abbrev NumberedIn : Edge → Type 0
NumberedIn e = IsNumbered e.seats e.next_conn

-- Other seats and numbers that are the same.
same_places : (i n : ℕ) (t : List Call) (g : List ℕ) (a b : Edge) → b.seats ≡ a.seats → b.next_conn ≡ a.next_conn → LivesIn i n t g a → LivesIn i n t g b
same_places i n t g a b p q l = lives_as i n t t g g a.seats b.seats a.next_conn b.next_conn refl refl p q l

reaches_at : (i n : ℕ) (t : List Call) (g : List ℕ) (calls : List Call) (a b : Edge) → b.seats ≡ a.seats → b.next_conn ≡ a.next_conn → ReachesIn i n t g calls a → ReachesIn i n t g calls b
reaches_at i n t g calls a b p q r =
    subst (λ (s : List Seat). Reaches i n t g calls s b.next_conn) (sym p) (subst (λ (k : ℕ). Reaches i n t g calls a.seats k) (sym q) r)

-- Where nothing is given.
reach_on : (i n : ℕ) (t : List Call) (g : List ℕ) (xs ys : List Call) (mid b : Edge) → ReachesIn i n t g xs mid → ((s : List Call) → LivesIn i n s g mid → ReachesIn i n s g ys b) → ReachesIn i n t g (xs ++ ys) b
reach_on i n t g xs ys mid b r k =
    subst (λ (h : List ℕ). ReachesIn i n t h (xs ++ ys) b) (append-nil g)
    (reach_then i n t g [] xs ys mid.seats b.seats mid.next_conn b.next_conn r (λ s l. subst (λ (h : List ℕ). ReachesIn i n s h ys b) (sym (append-nil g)) (k s l)))

steps_reach : (i n : ℕ) (t : List Call) (g : List ℕ) (a b : Edge) (calls : List Call) → Steps a calls b → LivesIn i n t g a → ReachesIn i n t g calls b
steps_reach i n t g a b calls m l =
    subst (λ (h : List ℕ). ReachesIn i n t h calls b) (append-nil g) (move_lives i n t g a.seats a.next_conn calls (λ k. []) b.seats b.next_conn m l)

quiet_reaches : (wake : Option ℕ) (i n : ℕ) (t : List Call) (g : List ℕ) (a : Edge) (xs : List Call) (b : Edge) → Quiet wake a xs b → LivesIn i n t g a → ReachesIn i n t g xs b
quiet_reaches wake i n t g a [] b q l =
    let same = passes_same a b q in
    inl (tt, lives_as i n (t ++ []) t g g a.seats b.seats a.next_conn b.next_conn (append-nil t) refl (ap (λ (x : Edge). x.seats) same) (ap (λ (x : Edge). x.next_conn) same) l)
quiet_reaches wake i n t g a (x ∷ xs) b q l =
    reach_on i n t g (x ∷ []) xs q.0 b (steps_reach i n t g a q.0 (x ∷ []) (quiet_steps wake a x q.0 q.1.0) l) (λ s m. quiet_reaches wake i n s g q.0 xs b q.1.1 m)

quiet_numbered : (wake : Option ℕ) (a : Edge) (xs : List Call) (b : Edge) → Quiet wake a xs b → NumberedIn a → NumberedIn b
quiet_numbered wake a [] b q o =
    let same = passes_same a b q in
    numbered_as a.seats b.seats a.next_conn b.next_conn (ap (λ (x : Edge). x.seats) same) (ap (λ (x : Edge). x.next_conn) same) o
quiet_numbered wake a (x ∷ xs) b q o =
    quiet_numbered wake q.0 xs b q.1.1 (move_numbered a.seats a.next_conn (x ∷ []) (λ k. []) q.0.seats q.0.next_conn (quiet_steps wake a x q.0 q.1.0) o)

-- What `next` does.
last_steps : (wake : Option ℕ) (a : Edge) (calls : List Call) (e : ModelEvent) (b : Edge) → Finds a calls e b ⊎ Ticks wake a calls e b → Steps a calls b
last_steps wake a calls e b h = elim h [
  | inl found ↦ looks_steps (place_at found.token) a calls found.id found.gave found.buffer b found.looks
  | inr due ↦ rest_steps a b calls (all_as calls [] due.none (λ s p. tt)) (ap (λ (x : Edge). x.seats) due.left) (ap (λ (x : Edge). x.next_conn) due.left)
]

said_reaches : (wake : Option ℕ) (i n : ℕ) (t : List Call) (g : List ℕ) (said : Answer) (a : Edge) (calls : List Call) (b : Edge) → Gave wake said a calls b → LivesIn i n t g a → ReachesIn i n t g calls b
said_reaches wake i n t g (history.gave e) a calls b h l =
    let all : ReachesIn i n t g (h.before ++ h.last) h.after =
    reach_on i n t g h.before h.last h.between h.after (quiet_reaches wake i n t g a h.before h.between h.quiet l)
    (λ s m. steps_reach i n s g h.between h.after h.last (last_steps wake h.between h.last e h.after h.heard) m) in
    subst (λ (cs : List Call). ReachesIn i n t g cs b) (sym h.whole)
    (reaches_at i n t g (h.before ++ h.last) h.after b (ap (λ (x : Edge). x.seats) h.left) (ap (λ (x : Edge). x.next_conn) h.left) all)
said_reaches wake i n t g history.ended a calls b h l = absurd h
said_reaches wake i n t g history.failed a calls b h l =
    reaches_at i n t g calls h.between b (ap (λ (x : Edge). x.seats) h.left) (ap (λ (x : Edge). x.next_conn) h.left) (quiet_reaches wake i n t g a calls h.between h.quiet l)
said_reaches wake i n t g (history.bad number) a calls b h l = absurd h

said_numbered : (wake : Option ℕ) (said : Answer) (a : Edge) (calls : List Call) (b : Edge) → Gave wake said a calls b → NumberedIn a → NumberedIn b
said_numbered wake (history.gave e) a calls b h o =
    let mid : NumberedIn h.between = quiet_numbered wake a h.before h.between h.quiet o in
    let end : NumberedIn h.after = move_numbered h.between.seats h.between.next_conn h.last (λ k. []) h.after.seats h.after.next_conn (last_steps wake h.between h.last e h.after h.heard) mid in
    numbered_as h.after.seats b.seats h.after.next_conn b.next_conn (ap (λ (x : Edge). x.seats) h.left) (ap (λ (x : Edge). x.next_conn) h.left) end
said_numbered wake history.ended a calls b h o = absurd h
said_numbered wake history.failed a calls b h o =
    numbered_as h.between.seats b.seats h.between.next_conn b.next_conn (ap (λ (x : Edge). x.seats) h.left) (ap (λ (x : Edge). x.next_conn) h.left) (quiet_numbered wake a calls h.between h.quiet o)
said_numbered wake (history.bad number) a calls b h o = absurd h

-- None had come.
none_reaches : (i n : ℕ) (t : List Call) (g : List ℕ) (a : Edge) (calls : List Call) (b : Edge) → NoneCame a calls b → LivesIn i n t g a → ReachesIn i n t g calls b
none_reaches i n t g a calls b h l =
    reaches_at i n t g calls h.between b (ap (λ (x : Edge). x.seats) h.left) (ap (λ (x : Edge). x.next_conn) h.left) (quiet_reaches None i n t g a calls h.between h.quiet l)

none_numbered : (a : Edge) (calls : List Call) (b : Edge) → NoneCame a calls b → NumberedIn a → NumberedIn b
none_numbered a calls b h o =
    numbered_as h.between.seats b.seats h.between.next_conn b.next_conn (ap (λ (x : Edge). x.seats) h.left) (ap (λ (x : Edge). x.next_conn) h.left) (quiet_numbered None a calls h.between h.quiet o)

-- An event that isn't a connection that came.
others_found : {X : Type 0} (gave : Step) (found : Found) → Others gave → IsFound gave found → kind_of found.kind ≡ conn_up → X
others_found step.Nothing found o f k = absurd f
others_found (step.Event it) found o f k = absurd (subst IsOther (ap (λ (x : Found). kind_of x.kind) f ∙ k) o)
others_found (step.Last it) found o f k = absurd (subst IsOther (ap (λ (x : Found). kind_of x.kind) f ∙ k) o)

others_as : (gave step : Step) → gave ≡ step → Others step → Others gave
others_as gave step e o = subst Others (sym e) o

request_others : (answer : Received) → Others (request_step answer)
request_others received.Nothing = tt
request_others (received.Datagram letter) = tt
request_others received.Failed = tt

requests_others : (hears : Bool) (calls : List Call) (gave : Step) (buffer : List ℕ) → HearsRequests hears calls gave buffer → Others gave
requests_others true calls gave buffer h = others_as gave _ h.1.1 (request_others h.0)
requests_others false calls gave buffer h = others_as gave _ h.1 tt

end_others : (settled : Bool) → Others (if settled then step.Last (plain_found kind.ConnDown) else step.Nothing)
end_others true = tt
end_others false = tt

conn_others : (before : Asked) (waiting : List ℕ) (answer : Part) → Others (conn_step before waiting answer)
conn_others before waiting part.Nothing = tt
conn_others before waiting (part.Bytes len) = tt
conn_others before waiting part.End = end_others (is_settled before waiting)
conn_others before waiting part.Failed = tt

reads_others : (left : Option (List ℕ)) (socket : ℕ) (conn : Conn) (flushed calls : List Call) (gave : Step) (buffer : List ℕ) (new : Seat) → ReadsBehind socket conn left flushed calls gave buffer new → Others gave
reads_others None socket conn flushed calls gave buffer new r = others_as gave _ r.1 tt
reads_others (Some rest) socket conn flushed calls gave buffer new r = others_as gave _ r.1.1.0 (conn_others conn.asked rest r.0)

look_others : (failed : Bool) (socket : ℕ) (conn : Conn) (waiting : List ℕ) (calls : List Call) (gave : Step) (buffer : List ℕ) (new : Seat) → LooksAtConn socket conn waiting failed calls gave buffer new → Others gave
look_others true socket conn waiting calls gave buffer new l = others_as gave _ l.1 tt
look_others false socket conn waiting calls gave buffer new l = reads_others (flush_rest waiting l.0) socket conn _ calls gave buffer new l.1

seat_others : (c : Option Conn) (socket : ℕ) (seat : Seat) (calls : List Call) (id : ℕ) (gave : Step) (buffer : List ℕ) (new : Seat) → LooksAtSeat socket seat c calls id gave buffer new → Others gave
seat_others None socket seat calls id gave buffer new l = others_as gave _ l.1.0 tt
seat_others (Some conn) socket seat calls id gave buffer new l = look_others conn.failed socket conn seat.backlog calls gave buffer new l.1

datagram_others : (answer : Received) → Others (datagram_step answer)
datagram_others received.Nothing = tt
datagram_others (received.Datagram letter) = tt
datagram_others received.Failed = tt

standing_others : (answer : Standing) → Others (standing_step answer)
standing_others standing.NotYet = tt
standing_others standing.Stands = tt
standing_others standing.Failed = tt

part_others : (server : List ℕ) (answer : Part) → Others (part_step server answer)
part_others server part.Nothing = tt
part_others server (part.Bytes len) = tt
part_others server part.End = tt
part_others server part.Failed = tt

missing_others : (cause : NoSocket) → Others (missing_step cause)
missing_others no_socket.PortTaken = tt
missing_others no_socket.Full = tt
missing_others no_socket.Failed = tt

way_others : (way : Way) (socket : ℕ) (server : List ℕ) (calls : List Call) (gave : Step) (buffer : List ℕ) → HearsWay socket server way calls gave buffer → Others gave
way_others Udp socket server calls gave buffer h = others_as gave _ h.1.1 (datagram_others h.0)
way_others Connecting socket server calls gave buffer h = others_as gave _ h.1.1 (standing_others h.0)
way_others Connected socket server calls gave buffer h = others_as gave _ h.1.1 (part_others server h.0)
way_others (Missing cause) socket server calls gave buffer h = others_as gave _ h.1 (missing_others cause)

-- A connection that came: its place was free, and it has the next number.
record Opens (a : Edge) (calls : List Call) (id : ℕ) (b : Edge) : Type 0 where
  index : ℕ
  seat : Seat
  peer : Peer
  there : slice_get a.seats index ≡ Some seat
  one : calls ≡ call.accept 1 (seat_socket index) (accepted.Connection peer) ∷ []
  named : id ≡ a.next_conn
  seats : b.seats ≡ slice_set a.seats index (new_seat a.next_conn)
  next : b.next_conn ≡ counted a.next_conn

gives_opens : (answer : Accepted) (a b : Edge) (calls : List Call) (id : ℕ) (gave : Step) (found : Found) → AcceptGives answer a.seats a.next_conn a.clock calls gave b.seats b.retry → StepNumbers gave a.next_conn b.next_conn id → IsFound gave found → kind_of found.kind ≡ conn_up → Opens a calls id b
gives_opens accepted.Nothing a b calls id gave found h n f k = others_found gave found (others_as gave _ h.1.1.0 tt) f k
gives_opens accepted.Aborted a b calls id gave found h n f k = others_found gave found (others_as gave _ h.1.1.0 tt) f k
gives_opens accepted.Failed a b calls id gave found h n f k = others_found gave found (others_as gave _ h.1.1.0 tt) f k
gives_opens (accepted.Connection peer) a b calls id gave found h n f k = elim h [
  | inl kept ↦
      let numbers = subst (λ (g : Step). StepNumbers g a.next_conn b.next_conn id) kept.2.1.1.1.0 n in
      record {
        index = kept.0;
        seat = kept.1;
        peer = peer;
        there = kept.2.0;
        one = kept.2.1.1.0;
        named = numbers.0;
        seats = kept.2.1.1.1.1.0;
        next = numbers.1;
      }
  | inr closed ↦ others_found gave found (others_as gave _ closed.1.1.0 tt) f k
]

accepts_opens : (hears : Bool) (a b : Edge) (calls : List Call) (id : ℕ) (gave : Step) (found : Found) → Accepts hears a.seats a.next_conn a.clock a.retry calls gave b.seats b.retry → StepNumbers gave a.next_conn b.next_conn id → IsFound gave found → kind_of found.kind ≡ conn_up → Opens a calls id b
accepts_opens true a b calls id gave found h n f k = gives_opens h.0 a b calls id gave found h.1 n f k
accepts_opens false a b calls id gave found h n f k = others_found gave found (others_as gave _ h.1.0 tt) f k

looks_open : (source : Place) (a b : Edge) (calls : List Call) (id : ℕ) (gave : Step) (buffer : List ℕ) (found : Found) → Looks source a calls id gave buffer b → IsFound gave found → kind_of found.kind ≡ conn_up → Opens a calls id b
looks_open place.Datagrams a b calls id gave buffer found h f k = others_found gave found (requests_others a.hears calls gave buffer h.0) f k
looks_open place.Listener a b calls id gave buffer found h f k = accepts_opens a.hears a b calls id gave found h.0 h.1.0 f k
looks_open (place.Seat index) a b calls id gave buffer found h f k =
    let o : Others gave = elim h.0 [
      | inl none ↦ others_as gave _ none.1.0 tt
      | inr there ↦ seat_others there.0.conn (seat_socket index) there.0 there.1.heard id gave buffer there.1.after there.1.looks
    ] in
    others_found gave found o f k
looks_open (place.Link key) a b calls id gave buffer found h f k =
    let o : Others gave = elim h.0 [
      | inl none ↦ others_as gave _ none.1.1.0 tt
      | inr there ↦ way_others there.0.way (link_socket key) there.0.server there.1.heard gave buffer there.1.hears
    ] in
    others_found gave found o f k

-- It is alone with its number, and nothing was taken or given.
opens_lives : (a b : Edge) (calls : List Call) (id : ℕ) → Opens a calls id b → NumberedIn a → id < 2 ^ 64 - 1 → (index : ℕ) × (peer : Peer) × ((calls ≡ call.accept 1 (seat_socket index) (accepted.Connection peer) ∷ []) × LivesIn index id [] [] b)
opens_lives a b calls id u o room =
    let named = u.named in
    let next = u.next in
    let top = o.limit in
    let under : a.next_conn < 2 ^ 64 - 1 = omega arith in (
      u.index,
      u.peer,
      (
        u.one,
        record {
          seat = new_seat a.next_conn;
          conn = record { number = a.next_conn; failed = false; ended = false; asked = none_asked };
          there = ap (λ (s : List Seat). slice_get s u.index) u.seats ∙ get_set a.seats u.index u.seat (new_seat a.next_conn) u.there;
          is = refl;
          named = sym u.named;
          alone = λ (j : ℕ) (other : Seat) (its : Conn) at is same. elim (eqb_tells u.index j) [
            | inl here ↦ sym here.1
            | inr away ↦
                let was : slice_get a.seats j ≡ Some other = sym (get_other a.seats u.index j (new_seat a.next_conn) away.1) ∙ (sym (ap (λ (s : List Seat). slice_get s j) u.seats) ∙ at) in
                let less : its.number < a.next_conn = o.below under j other its was is in
                absurd (omega arith)
          ];
          stays = tt;
          balance = ([], (refl, λ e. refl));
          why = λ bad. let no : true ≡ false = sym bad in (cc);
          below = omega arith;
          limit = omega arith;
          places = ap (λ (s : List Seat). length s) u.seats ∙ (length-set a.seats u.index (new_seat a.next_conn) ∙ o.places);
        },
      ),
    )

hears_opens : (wake : Option ℕ) (e : ModelEvent) (a : Edge) (calls : List Call) (b : Edge) → Hears wake e a calls b → e.kind ≡ conn_up → NumberedIn a → e.id < 2 ^ 64 - 1 → (before : List Call) × (index : ℕ) × (peer : Peer) × ((calls ≡ before ++ call.accept 1 (seat_socket index) (accepted.Connection peer) ∷ []) × LivesIn index e.id [] [] b)
hears_opens wake e a calls b h k o room = elim h.heard [
  | inl found ↦
      let id : e.id ≡ found.id = ap (λ (x : ModelEvent). x.id) found.event in
      let is : kind_of found.found.kind ≡ conn_up = sym (ap (λ (x : ModelEvent). x.kind) found.event) ∙ k in
      let u : Opens h.between h.last found.id h.after = looks_open (place_at found.token) h.between h.after h.last found.id found.gave found.buffer found.found found.looks found.one is in
      let l = opens_lives h.between h.after h.last e.id (subst (λ (n : ℕ). Opens h.between h.last n h.after) (sym id) u) (quiet_numbered wake a h.before h.between h.quiet o) room in (
        h.before,
        l.0,
        l.1,
        (
          h.whole ∙ ap (λ (cs : List Call). h.before ++ cs) l.2.0,
          same_places l.0 e.id [] [] h.after b (ap (λ (x : Edge). x.seats) h.left) (ap (λ (x : Edge). x.next_conn) h.left) l.2.1,
        ),
      )
  | inr due ↦ let no : tick ≡ conn_up = sym (ap (λ (x : ModelEvent). x.kind) due.event) ∙ k in (cc)
]

-- What was reached, in the words of the law.
answered : (i n : ℕ) (xs : List Exchange) (calls : List Call) (b : Edge) → ReachesIn i n [] (replies_to n xs) calls b → IsAnswered i n xs calls b.seats
answered i n xs calls b r = elim r [
  | inl on ↦
      let l = on.1 in (
        (l.seat.backlog ++ l.balance.0, l.balance.1.0),
        λ o. (
          l.seat,
          l.conn,
          (
            l.there,
            (
              l.is,
              (
                l.named,
                (
                  λ fine.
                      ap (λ (x : List ℕ). takes (seat_socket i) calls ++ x) (sym (append-nil l.seat.backlog) ∙ ap (λ (x : List ℕ). l.seat.backlog ++ x) (sym (l.balance.1.1 fine))) ∙ l.balance.1.0,
                  λ bad. l.why bad,
                ),
              ),
            ),
          ),
        ),
      )
  | inr end ↦ ((end.1.1.0, end.1.1.1), λ o. absurd (end.1.0 o))
]

module _ {S : Type 0} (called : S → List Call → S → Type 0) where
  -- The calls of each part.
  abbrev pub parts_of : (a b : Shown S) (xs : List Passed) → Accounted called a xs b → List (List Call)
  parts_of a b [] p = []
  parts_of a b (x ∷ xs) p = p.1.0.0 ∷ parts_of p.0 b xs p.1.1

  exchange_reaches : (i n : ℕ) (t : List Call) (g : List ℕ) (x : Exchange) (a m : Shown S) (calls : List Call) → Explains x a calls m → LivesIn i n t g a.edge → ReachesIn i n t (g ++ replied_in n x) calls m.edge
  exchange_reaches i n t g (listened addr send_from ok) a m calls e l =
      move_lives i n t g a.edge.seats a.edge.next_conn calls (λ k. []) m.edge.seats m.edge.next_conn
      (rest_steps a.edge m.edge calls (all_as calls _ e.0.0.1.0 (hearing_miss e.0.0.0 addr a.port)) (ap (λ (w : Edge). w.seats) e.0.1) (ap (λ (w : Edge). w.next_conn) e.0.1)) l
  exchange_reaches i n t g (asked wake said) a m calls e l =
      subst (λ (h : List ℕ). ReachesIn i n t h calls m.edge) (sym (append-nil g)) (said_reaches wake i n t g said a.edge calls m.edge e.0 l)
  exchange_reaches i n t g (gathered x) a m calls e l =
      subst (λ (h : List ℕ). ReachesIn i n t h calls m.edge) (sym (append-nil g)) (said_reaches None i n t g (history.gave x) a.edge calls m.edge e.0.0 l)
  exchange_reaches i n t g (did x) a m calls e l =
      move_lives i n t g a.edge.seats a.edge.next_conn calls (λ k. reply_to k x) m.edge.seats m.edge.next_conn (makes_steps x a.edge calls m.edge e.0) l

  pub exchange_numbered : (x : Exchange) (a m : Shown S) (calls : List Call) → Explains x a calls m → NumberedIn a.edge → NumberedIn m.edge
  exchange_numbered (listened addr send_from ok) a m calls e o =
      numbered_as a.edge.seats m.edge.seats a.edge.next_conn m.edge.next_conn (ap (λ (w : Edge). w.seats) e.0.1) (ap (λ (w : Edge). w.next_conn) e.0.1) o
  exchange_numbered (asked wake said) a m calls e o = said_numbered wake said a.edge calls m.edge e.0 o
  exchange_numbered (gathered x) a m calls e o = said_numbered None (history.gave x) a.edge calls m.edge e.0.0 o
  exchange_numbered (did x) a m calls e o =
      move_numbered a.edge.seats a.edge.next_conn calls (λ k. reply_to k x) m.edge.seats m.edge.next_conn (makes_steps x a.edge calls m.edge e.0) o

  pub part_numbered : (x : Passed) (a m : Shown S) (calls : List Call) → Accounts x a calls m → NumberedIn a.edge → NumberedIn m.edge
  part_numbered (exchanged x) a m calls e o = exchange_numbered x a m calls e o
  part_numbered none_came a m calls e o = none_numbered a.edge calls m.edge e.0 o

  -- One connection, followed to the end of the run.
  follows : (i n : ℕ) (t : List Call) (g : List ℕ) (a b : Shown S) (xs : List Passed) (p : Accounted called a xs b) → LivesIn i n t g a.edge → ReachesIn i n t (g ++ replies_to n (exchanges_of xs)) (joined (parts_of a b xs p)) b.edge
  follows i n t g a b [] p l =
      inl (tt, lives_as i n (t ++ []) t g (g ++ []) a.edge.seats b.edge.seats a.edge.next_conn b.edge.next_conn (append-nil t) (append-nil g) (ap (λ (w : Shown S). w.edge.seats) p) (ap (λ (w : Shown S). w.edge.next_conn) p) l)
  follows i n t g a b (exchanged x ∷ xs) p l =
      subst (λ (h : List ℕ). ReachesIn i n t h (p.1.0.0 ++ joined (parts_of p.0 b xs p.1.1)) b.edge) (append_assoc g (replied_in n x) (replies_to n (exchanges_of xs)))
      (reach_then i n t (g ++ replied_in n x) (replies_to n (exchanges_of xs)) p.1.0.0 (joined (parts_of p.0 b xs p.1.1)) p.0.edge.seats b.edge.seats p.0.edge.next_conn b.edge.next_conn
      (exchange_reaches i n t g x a p.0 p.1.0.0 p.1.0.1.1 l)
      (λ s m. follows i n s (g ++ replied_in n x) p.0 b xs p.1.1 m))
  follows i n t g a b (none_came ∷ xs) p l =
      reach_then i n t g (replies_to n (exchanges_of xs)) p.1.0.0 (joined (parts_of p.0 b xs p.1.1)) p.0.edge.seats b.edge.seats p.0.edge.next_conn b.edge.next_conn
      (none_reaches i n t g a.edge p.1.0.0 p.0.edge p.1.0.1.1.0 l)
      (λ s m. follows i n s g p.0 b xs p.1.1 m)

  up_answered : (k : Kind) (wake : Option ℕ) (e : ModelEvent) (a m b : Shown S) (xs : List Passed) (calls : List Call) (p : Accounted called m xs b) → e.kind ≡ k → Hears wake e a.edge calls m.edge → NumberedIn a.edge → UpIsAnswered k e.id calls (exchanges_of xs) (joined (parts_of m b xs p)) b.edge.seats
  up_answered tick wake e a m b xs calls p k h o = tt
  up_answered request wake e a m b xs calls p k h o = tt
  up_answered datagram wake e a m b xs calls p k h o = tt
  up_answered link_up wake e a m b xs calls p k h o = tt
  up_answered link_bytes wake e a m b xs calls p k h o = tt
  up_answered link_down wake e a m b xs calls p k h o = tt
  up_answered bind_refused wake e a m b xs calls p k h o = tt
  up_answered conn_up wake e a m b xs calls p k h o = λ room.
      let u = hears_opens wake e a.edge calls m.edge h k o room in
      (u.0, u.1, u.2, (u.3.0, answered u.1 e.id (exchanges_of xs) (joined (parts_of m b xs p)) b.edge (follows u.1 e.id [] [] m b xs p u.3.1)))
  up_answered conn_bytes wake e a m b xs calls p k h o = tt
  up_answered conn_down wake e a m b xs calls p k h o = tt

  said_answered : (said : Answer) (wake : Option ℕ) (a m b : Shown S) (xs : List Passed) (calls : List Call) (p : Accounted called m xs b) → Gave wake said a.edge calls m.edge → NumberedIn a.edge → SaidIsAnswered said calls (exchanges_of xs) (joined (parts_of m b xs p)) b.edge.seats
  said_answered (history.gave e) wake a m b xs calls p h o = up_answered e.kind wake e a m b xs calls p refl h o
  said_answered history.ended wake a m b xs calls p h o = tt
  said_answered history.failed wake a m b xs calls p h o = tt
  said_answered (history.bad number) wake a m b xs calls p h o = tt

  behind_answered : (x : Exchange) (a m b : Shown S) (xs : List Passed) (calls : List Call) (p : Accounted called m xs b) → Explains x a calls m → NumberedIn a.edge → IsAnsweredBehind x calls (exchanges_of xs) (joined (parts_of m b xs p)) b.edge.seats
  behind_answered (listened addr send_from ok) a m b xs calls p e o = tt
  behind_answered (asked wake said) a m b xs calls p e o = said_answered said wake a m b xs calls p e.0 o
  behind_answered (gathered x) a m b xs calls p e o = up_answered x.kind None x a m b xs calls p refl e.0.0 o
  behind_answered (did x) a m b xs calls p e o = tt

  part_answered : (x : Passed) (a m b : Shown S) (xs : List Passed) (calls : List Call) (p : Accounted called m xs b) → Accounts x a calls m → NumberedIn a.edge → PassedIsAnswered x calls (exchanges_of xs) (joined (parts_of m b xs p)) b.edge.seats
  part_answered (exchanged x) a m b xs calls p e o = behind_answered x a m b xs calls p e o
  part_answered none_came a m b xs calls p e o = tt

  pub all_answered : (a b : Shown S) (xs : List Passed) (p : Accounted called a xs b) → NumberedIn a.edge → AllAnswered xs (parts_of a b xs p) b.edge.seats
  all_answered a b [] p o = refl
  all_answered a b (x ∷ xs) p o =
      (part_answered x a p.0 b xs p.1.0.0 p.1.1 p.1.0.1.1 o, all_answered p.0 b xs p.1.1 (part_numbered x a p.0 p.1.0.0 p.1.0.1.1 o))

  -- The places at the end of a run.
  parts_numbered : (a b : Shown S) (xs : List Passed) → NumberedIn a.edge → Accounted called a xs b → NumberedIn b.edge
  parts_numbered a b [] o p = subst (λ (w : Shown S). NumberedIn w.edge) (sym p) o
  parts_numbered a b (x ∷ xs) o p = parts_numbered p.0 b xs (part_numbered x a p.0 p.1.0.0 p.1.0.1.1 o) p.1.1

  pub run_numbered : (a b : Shown S) (xs : List Exchange) → NumberedIn a.edge → Explained called a xs b → NumberedIn b.edge
  run_numbered a b xs o p = parts_numbered a b p.0 o p.1.1

-- Where no connection stands.
no_seat : (k index : ℕ) (seat : Seat) → slice_get (replicate k free_seat) index ≡ Some seat → seat ≡ free_seat
no_seat zero index seat p = cc
no_seat (suc k) zero seat p = cc
no_seat (suc k) (suc index) seat p = no_seat k index seat p

pub fresh_numbered : {S : Type 0} (over : S) (at : ℕ) (w : Shown S) → IsFresh over at w → NumberedIn w.edge
fresh_numbered {S} over at w f =
    numbered_as (replicate 24 free_seat) w.edge.seats 1 w.edge.next_conn f.seats f.next_conn (record {
      places = refl;
      limit = omega arith;
      below = λ room (index : ℕ) (seat : Seat) (conn : Conn) there is. let none : seat ≡ free_seat = no_seat 24 index seat there in (cc);
    })
