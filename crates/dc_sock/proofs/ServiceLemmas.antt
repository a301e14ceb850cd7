-- A run in the words of who runs the service.
use Rattle.std.specs.Prelude.{◌≡◌, ◌⊎◌, ◌≤◌, ◌+◌, ℕ, Bool, true, false, if◌then◌else◌, List, [], ◌∷◌, ◌++◌, length, take, ◌==◌, nat_lt, refl}
use Rattle.std.proofs.Common.{inl, inr, sym, subst, ◌∙◌, ap, append_assoc, arith}
use Rattle.std.proofs.lemmas.List.{append-nil}
use Rattle.std.specs.List.{AllByRecursion}
use Rattle.std.specs.declared.option.Option.{Option}
use Rattle.std.specs.declared.option.Option.TheVariants.{None, Some}
use Rattle.dc_model.specs.Event.{Event as ModelEvent, Action, reply, conn_reply, conn_close, udp, tcp, link_write, link_close, line}
use Rattle.dc_event.specs.History.{Answer, Exchange, listened, asked, gathered, did}
use Rattle.dc_event.specs.History as history
use Rattle.dc_system.specs.Call.{Call, letter_bytes, part_bytes}
use Rattle.dc_system.specs.Call as call
use Rattle.dc_system.specs.declared.answers.Accepted.{Accepted}
use Rattle.dc_system.specs.declared.answers.Accepted.TheVariants as accepted
use Rattle.dc_system.specs.declared.answers.NoSocket.{NoSocket}
use Rattle.dc_system.specs.declared.answers.NoSocket.TheVariants as no_socket
use Rattle.dc_system.specs.declared.answers.Part.{Part}
use Rattle.dc_system.specs.declared.answers.Part.TheVariants as part
use Rattle.dc_system.specs.declared.answers.Received.{Received}
use Rattle.dc_system.specs.declared.answers.Received.TheVariants as received
use Rattle.dc_system.specs.declared.answers.Standing.{Standing}
use Rattle.dc_system.specs.declared.answers.Standing.TheVariants as standing
use Rattle.dc_sock.specs.declared.found.Found.{Found}
use Rattle.dc_sock.specs.declared.found.Step.{Step}
use Rattle.dc_sock.specs.declared.found.Step.TheVariants as step
use Rattle.dc_sock.specs.declared.link.Link.{Link}
use Rattle.dc_sock.specs.declared.link.Way.{Way}
use Rattle.dc_sock.specs.declared.link.Way.TheVariants.{Udp, Connecting, Connected, Missing}
use Rattle.dc_sock.specs.declared.place.Place.{Place}
use Rattle.dc_sock.specs.declared.place.Place.TheVariants as place
use Rattle.dc_sock.specs.declared.seat.Conn.{Conn}
use Rattle.dc_sock.specs.declared.seat.Seat.{Seat}
use Rattle.slab.specs.Slab.{Slab}
use Rattle.dc_engine.specs.declared.events.Kind.TheVariants as kind
use Rattle.dc_sock.specs.Found.{plain_found, event_found}
use Rattle.dc_sock.specs.Asked.{is_settled}
use Rattle.dc_sock.specs.declared.asked.Asked.{Asked}
use Rattle.dc_sock.specs.ClientCalls.{Hearing, refused, deaf, both, listen_calls, hears_after, request_step, HearsRequests, AcceptGives, Accepts, HearsSeat, GoesSeat, Replies, seat_socket}
use Rattle.dc_sock.specs.Edge.{Edge, QuietAccept, QuietRead, QuietCall, QuietStep, Quiet, Looks, IsFound, Hears, NoneCame}
use Rattle.dc_sock.specs.Passed.{Passed, exchanged, none_came, exchanges_of}
use Rattle.dc_sock.specs.Place.{place_at}
use Rattle.dc_sock.proofs.RoundLemmas.{passes_same}
use Rattle.dc_sock.specs.declared.link.Opening.{Opening}
use Rattle.dc_sock.specs.declared.link.Opening.TheVariants as opening
use Rattle.dc_sock.specs.LinkCalls.{udp_calls, datagram_step, standing_step, part_step, missing_step, close_calls, write_calls, took_all, HearsWay}
use Rattle.dc_sock.specs.Links.{Goes, LooksAt, link_socket}
use Rattle.dc_sock.specs.Log.{Gathered, PrintsText, PutsLineIf, LinesIf}
use Rattle.dc_sock.specs.SeatCalls.{PutsConn, PutsSeat, conn_step, ReadsBehind, LooksAtConn, LooksAtSeat}
use Rattle.dc_sock.specs.World.{Shown, Makes, Gave, Accounted, Explained}
use Rattle.dc_sock.specs.Service.{NoLetter, NotTaken, IsPlain, ArePlain, ComesBy, Came, Said, Done, Serves, printed_by, printed, IsPrinted, line_by, lines_in, PrintsLines, RunsService}
use Rattle.dc_sock.specs.Streams.{joined}
use Rattle.dc_sock.proofs.AnswerLemmas.{parts_of, all_answered}
use Rattle.dc_sock.proofs.SeatLemmas.{each_append}

-- A call that is plain and prints nothing.
abbrev IsStill : Call → Type 0
IsStill x = IsPlain x × (printed_by x ≡ [])

abbrev AreStill : List Call → Type 0
AreStill calls = AllByRecursion IsStill calls

still_both : (xs ys : List Call) → AreStill xs → AreStill ys → AreStill (xs ++ ys)
still_both xs ys p q = each_append IsStill xs ys p q

still_as : (calls xs : List Call) → calls ≡ xs → AreStill xs → AreStill calls
still_as calls xs e p = subst AreStill (sym e) p

still_plain : (calls : List Call) → AreStill calls → ArePlain calls
still_plain [] p = tt
still_plain (x ∷ xs) p = (p.0.0, still_plain xs p.1)

still_silent : (calls : List Call) → AreStill calls → printed calls ≡ []
still_silent [] p = refl
still_silent (x ∷ xs) p = ap (λ l. l ++ printed xs) p.0.1 ∙ still_silent xs p.1

printed_append : (xs ys : List Call) → printed (xs ++ ys) ≡ printed xs ++ printed ys
printed_append [] ys = refl
printed_append (x ∷ xs) ys = ap (λ l. printed_by x ++ l) (printed_append xs ys) ∙ sym (append_assoc (printed_by x) (printed xs) (printed ys))

each_split : (P : Call → Type 0) (xs ys : List Call) → AllByRecursion P (xs ++ ys) → AllByRecursion P xs × AllByRecursion P ys
each_split P [] ys p = (tt, p)
each_split P (x ∷ xs) ys p = let rest = each_split P xs ys p.1 in ((p.0, rest.0), rest.1)

-- Quiet calls.
receive_plain : (wake : Option ℕ) (s : ℕ) (answer : Received) (a b : Edge) (bytes : List ℕ) → QuietCall wake a (call.receive s answer bytes) b → NoLetter answer
receive_plain wake s received.Nothing a b bytes p = tt
receive_plain wake s (received.Datagram letter) a b bytes p = absurd p.0
receive_plain wake s received.Failed a b bytes p = tt

accept_plain : (a : Edge) (s : ℕ) (answer : Accepted) (b : Edge) → QuietAccept a s answer b → NotTaken s answer
accept_plain a s accepted.Nothing b p = tt
accept_plain a s accepted.Aborted b p = tt
accept_plain a s accepted.Failed b p = tt
accept_plain a s (accepted.Connection peer) b p = p.0

call_plain : (wake : Option ℕ) (a : Edge) (x : Call) (b : Edge) → QuietCall wake a x b → IsPlain x
call_plain wake a (call.bind s addr port answer) b p = absurd p
call_plain wake a (call.connect s addr port answer) b p = absurd p
call_plain wake a (call.send s bytes answer) b p = absurd p
call_plain wake a (call.send_to s addr port bytes answer) b p = absurd p
call_plain wake a (call.receive s answer bytes) b p = receive_plain wake s answer a b bytes p
call_plain wake a (call.listen s addr port answer) b p = absurd p
call_plain wake a (call.accept l s answer) b p = accept_plain a s answer b p
call_plain wake a (call.begin s addr port server to answer) b p = absurd p
call_plain wake a (call.stands s answer) b p = tt
call_plain wake a (call.read s answer bytes) b p = tt
call_plain wake a (call.write s bytes answer) b p = tt
call_plain wake a (call.close s) b p = tt
call_plain wake a (call.wait pause answer) b p = tt
call_plain wake a (call.ready answer) b p = tt
call_plain wake a (call.now answer) b p = tt
call_plain wake a (call.print bytes answer) b p = tt

-- Whether clients are heard, where links are opened from, and what is gathered.
abbrev outside : Edge → (Bool × List ℕ)
outside e = (e.hears, e.from)

-- What stays between two states: that, and what was gathered, behind what was printed.
abbrev Stays : Edge → List Call → Edge → Type 0
Stays a calls b = (outside b ≡ outside a) × (printed calls ++ b.log.text ≡ a.log.text)

accept_stays : (a : Edge) (s : ℕ) (answer : Accepted) (b : Edge) → QuietAccept a s answer b → (outside b ≡ outside a) × (b.log.text ≡ a.log.text)
accept_stays a s accepted.Nothing b p = (ap outside p, ap (λ (e : Edge). e.log.text) p)
accept_stays a s accepted.Aborted b p = (ap outside p, ap (λ (e : Edge). e.log.text) p)
accept_stays a s accepted.Failed b p = (ap outside p, ap (λ (e : Edge). e.log.text) p)
accept_stays a s (accepted.Connection peer) b p = (ap outside p.1.1, ap (λ (e : Edge). e.log.text) p.1.1)

read_stays : (a : Edge) (s : ℕ) (answer : Part) (b : Edge) → QuietRead a s answer b → (outside b ≡ outside a) × (b.log.text ≡ a.log.text)
read_stays a s part.Nothing b p = (ap outside p, ap (λ (e : Edge). e.log.text) p)
read_stays a s (part.Bytes len) b p = absurd p
read_stays a s part.End b p = (ap outside p.3.1.1.1.1, ap (λ (e : Edge). e.log.text) p.3.1.1.1.1)
read_stays a s part.Failed b p = absurd p

by_same : (a b : Edge) → b ≡ record a { round = b.round } → (outside b ≡ outside a) × (b.log.text ≡ a.log.text)
by_same a b p = (ap outside p, ap (λ (e : Edge). e.log.text) p)

call_stays : (wake : Option ℕ) (a : Edge) (x : Call) (b : Edge) → QuietCall wake a x b → (outside b ≡ outside a) × (printed_by x ++ b.log.text ≡ a.log.text)
call_stays wake a (call.bind s addr port answer) b p = absurd p
call_stays wake a (call.connect s addr port answer) b p = absurd p
call_stays wake a (call.send s bytes answer) b p = absurd p
call_stays wake a (call.send_to s addr port bytes answer) b p = absurd p
call_stays wake a (call.receive s answer bytes) b p = by_same a b p.1
call_stays wake a (call.listen s addr port answer) b p = absurd p
call_stays wake a (call.accept l s answer) b p = accept_stays a s answer b p
call_stays wake a (call.begin s addr port server to answer) b p = absurd p
call_stays wake a (call.stands s answer) b p = by_same a b p.1
call_stays wake a (call.read s answer bytes) b p = read_stays a s answer b p
call_stays wake a (call.write s bytes answer) b p = (ap outside p.3.1.1.1.1, ap (λ (e : Edge). e.log.text) p.3.1.1.1.1)
call_stays wake a (call.close s) b p = by_same a b p.1
call_stays wake a (call.wait pause answer) b p = (ap outside p.1, ap (λ (e : Edge). e.log.text) p.1)
call_stays wake a (call.ready answer) b p = by_same a b p
call_stays wake a (call.now answer) b p = (ap outside p, ap (λ (e : Edge). e.log.text) p)
call_stays wake a (call.print bytes answer) b p = (ap outside p.1, ap (λ (e : Edge). bytes ++ e.log.text) p.1 ∙ (append-nil bytes ∙ p.0))

step_stays : (wake : Option ℕ) (a : Edge) (x : Call) (b : Edge) → QuietStep wake a x b → (outside b ≡ outside a) × (printed_by x ++ b.log.text ≡ a.log.text)
step_stays wake a x b q =
    let one = call_stays wake q.0 x b q.1.1.0 in
    let same = passes_same a q.0 q.1.0 in
    (one.0 ∙ ap outside same, one.1 ∙ ap (λ (e : Edge). e.log.text) same)

quiet_runs : (wake : Option ℕ) (a : Edge) (xs : List Call) (b : Edge) → Quiet wake a xs b → ArePlain xs × Stays a xs b
quiet_runs wake a [] b q = (tt, by_same a b (passes_same a b q))
quiet_runs wake a (x ∷ xs) b q =
    let one = step_stays wake a x q.0 q.1.0 in
    let rest = quiet_runs wake q.0 xs b q.1.1 in
    ((call_plain wake q.1.0.0 x q.0 q.1.0.1.1.0, rest.0), (rest.1.0 ∙ one.0, append_assoc (printed_by x) (printed xs) b.log.text ∙ (ap (λ l. printed_by x ++ l) rest.1.1 ∙ one.1)))

-- What was found comes by these calls, which printed nothing.
abbrev Comes : (moment id : ℕ) → Found → (buffer : List ℕ) → List Call → Type 0
Comes moment id found buffer calls = ComesBy (event_found moment id found buffer).kind (event_found moment id found buffer) calls × (printed calls ≡ [])

-- Of a kind that takes no datagram.
abbrev Plainly : Found → Type 0
Plainly found = (moment id : ℕ) (buffer : List ℕ) (calls : List Call) → AreStill calls → Comes moment id found buffer calls

found_as : (f found : Found) (gave : Step) → gave ≡ step.Event f → IsFound gave found → f ≡ found
found_as f found gave g h = subst (λ (s : Step). IsFound s found) g h

last_as : (f found : Found) (gave : Step) → gave ≡ step.Last f → IsFound gave found → f ≡ found
last_as f found gave g h = subst (λ (s : Step). IsFound s found) g h

none_found : {X : Type 0} (found : Found) (gave : Step) → gave ≡ step.Nothing → IsFound gave found → X
none_found found gave g h = absurd (subst (λ (s : Step). IsFound s found) g h)

-- Requests.
request_comes : (answer : Received) (moment id : ℕ) (gave : Step) (found : Found) (buffer : List ℕ) (calls : List Call) → calls ≡ call.receive 0 answer (letter_bytes answer buffer) ∷ [] → gave ≡ request_step answer → IsFound gave found → Comes moment id found buffer calls
request_comes received.Nothing moment id gave found buffer calls e g f = none_found found gave g f
request_comes (received.Datagram letter) moment id gave found buffer calls e g f =
    subst (λ (x : Found). Comes moment id x buffer calls) (found_as _ found gave g f) ((letter, (e, (refl, refl))), ap printed e)
request_comes received.Failed moment id gave found buffer calls e g f = none_found found gave g f

requests_come : (hears : Bool) (moment id : ℕ) (gave : Step) (found : Found) (buffer : List ℕ) (calls : List Call) → HearsRequests hears calls gave buffer → IsFound gave found → Comes moment id found buffer calls
requests_come true moment id gave found buffer calls h f = request_comes h.0 moment id gave found buffer calls h.1.0 h.1.1 f
requests_come false moment id gave found buffer calls h f = none_found found gave h.1 f

-- Connections that come.
accept_comes : (answer : Accepted) (old : List Seat) (next : ℕ) (clock : Option ℕ) (calls : List Call) (gave : Step) (new : List Seat) (retry : Option ℕ) (moment id : ℕ) (found : Found) (buffer : List ℕ) → AcceptGives answer old next clock calls gave new retry → IsFound gave found → Comes moment id found buffer calls
accept_comes accepted.Nothing old next clock calls gave new retry moment id found buffer h f = none_found found gave h.1.1.0 f
accept_comes accepted.Aborted old next clock calls gave new retry moment id found buffer h f = none_found found gave h.1.1.0 f
accept_comes accepted.Failed old next clock calls gave new retry moment id found buffer h f = none_found found gave h.1.1.0 f
accept_comes (accepted.Connection peer) old next clock calls gave new retry moment id found buffer h f = elim h [
  | inl kept ↦ subst (λ (x : Found). Comes moment id x buffer calls) (found_as _ found gave kept.2.1.1.1.0 f)
      ((kept.0, peer, (kept.2.1.1.0, (refl, refl))), ap printed kept.2.1.1.0)
  | inr closed ↦ none_found found gave closed.1.1.0 f
]

accepts_come : (hears : Bool) (old : List Seat) (next : ℕ) (clock before : Option ℕ) (calls : List Call) (gave : Step) (new : List Seat) (retry : Option ℕ) (moment id : ℕ) (found : Found) (buffer : List ℕ) → Accepts hears old next clock before calls gave new retry → IsFound gave found → Comes moment id found buffer calls
accepts_come true old next clock before calls gave new retry moment id found buffer h f = accept_comes h.0 old next clock calls gave new retry moment id found buffer h.1 f
accepts_come false old next clock before calls gave new retry moment id found buffer h f = none_found found gave h.1.0 f

-- A client's connection.
flushed_still : (empty : Bool) (socket : ℕ) (bytes : List ℕ) (flush : Option ℕ) → AreStill (if empty then [] else call.write socket bytes flush ∷ [])
flushed_still true socket bytes flush = tt
flushed_still false socket bytes flush = ((tt, refl), tt)

end_plainly : (settled : Bool) (gave : Step) (found : Found) → gave ≡ (if settled then step.Last (plain_found kind.ConnDown) else step.Nothing) → IsFound gave found → Plainly found
end_plainly true gave found g f = subst Plainly (last_as _ found gave g f) (λ m i b c p. (still_plain c p, still_silent c p))
end_plainly false gave found g f = none_found found gave g f

-- What a client's stream gave, or what is told of it without a part.
abbrev bytes_found : ℕ → Found
bytes_found len = record { kind = kind.ConnBytes; addr = 0 ∷ 0 ∷ 0 ∷ 0 ∷ []; port = 0; len = len }

abbrev SeatGives : (socket : ℕ) (gave : Step) → Found → (buffer : List ℕ) → List Call → Type 0
SeatGives socket gave found buffer heard =
    (AreStill heard × Plainly found)
    ⊎ ((flushed : List Call) × (len : ℕ) × (AreStill flushed × ((heard ≡ flushed ++ call.read socket (part.Bytes len) (take len buffer) ∷ []) × (gave ≡ step.Event (bytes_found len)))))

part_gives : (answer : Part) (has_asked : Asked) (waiting : List ℕ) (socket : ℕ) (flushed heard : List Call) (gave : Step) (found : Found) (buffer : List ℕ) → AreStill flushed → heard ≡ flushed ++ call.read socket answer (part_bytes answer buffer) ∷ [] → gave ≡ conn_step has_asked waiting answer → IsFound gave found → SeatGives socket gave found buffer heard
part_gives part.Nothing has_asked waiting socket flushed heard gave found buffer s h g f = none_found found gave g f
part_gives (part.Bytes len) has_asked waiting socket flushed heard gave found buffer s h g f = inr (flushed, len, (s, (h, g)))
part_gives part.End has_asked waiting socket flushed heard gave found buffer s h g f =
    inl (still_as heard _ h (still_both flushed (call.read socket part.End [] ∷ []) s ((tt, refl), tt)), end_plainly (is_settled has_asked waiting) gave found g f)
part_gives part.Failed has_asked waiting socket flushed heard gave found buffer s h g f =
    inl (still_as heard _ h (still_both flushed (call.read socket part.Failed [] ∷ []) s ((tt, refl), tt)), subst Plainly (last_as _ found gave g f) (λ m i b c p. (still_plain c p, still_silent c p)))

reads_come : (rest : Option (List ℕ)) (socket : ℕ) (conn : Conn) (flushed calls : List Call) (gave : Step) (buffer : List ℕ) (new : Seat) (found : Found) → AreStill flushed → ReadsBehind socket conn rest flushed calls gave buffer new → IsFound gave found → SeatGives socket gave found buffer calls
reads_come None socket conn flushed calls gave buffer new found s r f = inl (still_as calls flushed r.0 s, subst Plainly (last_as _ found gave r.1 f) (λ m i b c p. (still_plain c p, still_silent c p)))
reads_come (Some rest) socket conn flushed calls gave buffer new found s r f = part_gives r.0 conn.asked rest socket flushed calls gave found buffer s r.1.0 r.1.1.0 f

conn_comes : (failed : Bool) (socket : ℕ) (conn : Conn) (waiting : List ℕ) (calls : List Call) (gave : Step) (buffer : List ℕ) (new : Seat) (found : Found) → LooksAtConn socket conn waiting failed calls gave buffer new → IsFound gave found → SeatGives socket gave found buffer calls
conn_comes true socket conn waiting calls gave buffer new found l f = inl (still_as calls [] l.0 tt, subst Plainly (last_as _ found gave l.1 f) (λ m i b c p. (still_plain c p, still_silent c p)))
conn_comes false socket conn waiting calls gave buffer new found l f = reads_come _ socket conn _ calls gave buffer new found (flushed_still (length waiting == 0) socket waiting l.0) l.1 f

seat_comes : (conn : Option Conn) (socket : ℕ) (seat : Seat) (calls : List Call) (number : ℕ) (gave : Step) (buffer : List ℕ) (new : Seat) (found : Found) → LooksAtSeat socket seat conn calls number gave buffer new → IsFound gave found → SeatGives socket gave found buffer calls
seat_comes None socket seat calls number gave buffer new found l f = none_found found gave l.1.0 f
seat_comes (Some conn) socket seat calls number gave buffer new found l f = conn_comes conn.failed socket conn seat.backlog calls gave buffer new found l.1 f

goes_seat_still : (gave : Step) (index : ℕ) (after : Seat) (old : List Seat) (calls : List Call) (new : List Seat) → GoesSeat gave index after old calls new → AreStill calls
goes_seat_still step.Nothing index after old calls new h = still_as calls [] h.0 tt
goes_seat_still (step.Event found) index after old calls new h = still_as calls [] h.0 tt
goes_seat_still (step.Last found) index after old calls new h = still_as calls (call.close (seat_socket index) ∷ []) h.0 ((tt, refl), tt)

seats_come : (index : ℕ) (old : List Seat) (calls : List Call) (number : ℕ) (gave : Step) (buffer : List ℕ) (new : List Seat) (moment id : ℕ) (found : Found) → HearsSeat index old calls number gave buffer new → IsFound gave found → Comes moment id found buffer calls
seats_come index old calls number gave buffer new moment id found h f = elim h [
  | inl none ↦ none_found found gave none.1.0 f
  | inr there ↦
      let l = there.1 in
      elim (seat_comes there.0.conn (seat_socket index) there.0 l.heard number gave buffer l.after found l.looks f) [
        | inl plainly ↦ plainly.1 moment id buffer calls (still_as calls (l.heard ++ l.closed) l.whole (still_both l.heard l.closed plainly.0 (goes_seat_still gave index l.after old l.closed new l.goes)))
        | inr given ↦
            let none : l.closed ≡ [] = (subst (λ (s : Step). GoesSeat s index l.after old l.closed new) given.2.1.1 l.goes).0 in
            let all : calls ≡ given.0 ++ call.read (seat_socket index) (part.Bytes given.1) (take given.1 buffer) ∷ [] = l.whole ∙ (ap (λ cs. l.heard ++ cs) none ∙ (append-nil l.heard ∙ given.2.1.0)) in
            subst (λ (x : Found). Comes moment id x buffer calls) (found_as _ found gave given.2.1.1 f) (
              (given.0, index, given.1, (still_plain given.0 given.2.0, all)),
              ap printed all ∙ (printed_append given.0 _ ∙ (append-nil (printed given.0) ∙ still_silent given.0 given.2.0)),
            )
      ]
]

-- A link.
close_still : (way : Way) (socket : ℕ) → AreStill (close_calls socket way)
close_still Udp socket = ((tt, refl), tt)
close_still Connecting socket = ((tt, refl), tt)
close_still Connected socket = ((tt, refl), tt)
close_still (Missing cause) socket = tt

goes_still : (gave : Step) (key : ℕ) (link : Link) (old : Slab Link) (calls : List Call) (new : Slab Link) → Goes gave key link old calls new → AreStill calls
goes_still step.Nothing key link old calls new h = still_as calls [] h.0 tt
goes_still (step.Event found) key link old calls new h = still_as calls [] h.0 tt
goes_still (step.Last found) key link old calls new h = still_as calls (close_calls (link_socket key) link.way) h.0 (close_still link.way (link_socket key))

link_high : (key : ℕ) → 26 ≤ link_socket key
link_high key = grind (arith)

datagram_comes : (answer : Received) (key : ℕ) (link : Link) (old new : Slab Link) (heard closed calls : List Call) (gave : Step) (buffer : List ℕ) (moment id : ℕ) (found : Found) → heard ≡ call.receive (link_socket key) answer (letter_bytes answer buffer) ∷ [] → gave ≡ datagram_step answer → Goes gave key link old closed new → calls ≡ heard ++ closed → IsFound gave found → Comes moment id found buffer calls
datagram_comes received.Nothing key link old new heard closed calls gave buffer moment id found h g goes whole f = none_found found gave g f
datagram_comes (received.Datagram letter) key link old new heard closed calls gave buffer moment id found h g goes whole f =
    let none : closed ≡ [] = (subst (λ (s : Step). Goes s key link old closed new) g goes).0 in
    let all : calls ≡ call.receive (link_socket key) (received.Datagram letter) (letter_bytes (received.Datagram letter) buffer) ∷ [] = whole ∙ (ap (λ cs. heard ++ cs) none ∙ (append-nil heard ∙ h)) in
    subst (λ (x : Found). Comes moment id x buffer calls) (found_as _ found gave g f) ((link_socket key, letter, (link_high key, (all, (refl, refl)))), ap printed all)
datagram_comes received.Failed key link old new heard closed calls gave buffer moment id found h g goes whole f =
    let still : AreStill calls = still_as calls (heard ++ closed) whole (still_both heard closed (still_as heard _ h ((tt, refl), tt)) (goes_still gave key link old closed new goes)) in
    subst (λ (x : Found). Comes moment id x buffer calls) (found_as _ found gave g f) (still_plain calls still, still_silent calls still)

standing_plainly : (answer : Standing) (gave : Step) (found : Found) → gave ≡ standing_step answer → IsFound gave found → Plainly found
standing_plainly standing.NotYet gave found g f = none_found found gave g f
standing_plainly standing.Stands gave found g f = subst Plainly (found_as _ found gave g f) (λ m i b c p. (still_plain c p, still_silent c p))
standing_plainly standing.Failed gave found g f = subst Plainly (last_as _ found gave g f) (λ m i b c p. (still_plain c p, still_silent c p))

stream_comes : (answer : Part) (key : ℕ) (link : Link) (server : List ℕ) (old new : Slab Link) (heard closed calls : List Call) (gave : Step) (buffer : List ℕ) (moment id : ℕ) (found : Found) → heard ≡ call.read (link_socket key) answer (part_bytes answer buffer) ∷ [] → gave ≡ part_step server answer → Goes gave key link old closed new → calls ≡ heard ++ closed → IsFound gave found → Comes moment id found buffer calls
stream_comes part.Nothing key link server old new heard closed calls gave buffer moment id found h g goes whole f = none_found found gave g f
stream_comes (part.Bytes len) key link server old new heard closed calls gave buffer moment id found h g goes whole f =
    let none : closed ≡ [] = (subst (λ (s : Step). Goes s key link old closed new) g goes).0 in
    let all : calls ≡ call.read (link_socket key) (part.Bytes len) (take len buffer) ∷ [] = whole ∙ (ap (λ cs. heard ++ cs) none ∙ (append-nil heard ∙ h)) in
    subst (λ (x : Found). Comes moment id x buffer calls) (found_as _ found gave g f) ((link_socket key, len, (link_high key, all)), ap printed all)
stream_comes part.End key link server old new heard closed calls gave buffer moment id found h g goes whole f =
    let still : AreStill calls = still_as calls (heard ++ closed) whole (still_both heard closed (still_as heard _ h ((tt, refl), tt)) (goes_still gave key link old closed new goes)) in
    subst (λ (x : Found). Comes moment id x buffer calls) (last_as _ found gave g f) (still_plain calls still, still_silent calls still)
stream_comes part.Failed key link server old new heard closed calls gave buffer moment id found h g goes whole f =
    let still : AreStill calls = still_as calls (heard ++ closed) whole (still_both heard closed (still_as heard _ h ((tt, refl), tt)) (goes_still gave key link old closed new goes)) in
    subst (λ (x : Found). Comes moment id x buffer calls) (last_as _ found gave g f) (still_plain calls still, still_silent calls still)

missing_plainly : (cause : NoSocket) (gave : Step) (found : Found) → gave ≡ missing_step cause → IsFound gave found → Plainly found
missing_plainly no_socket.PortTaken gave found g f = subst Plainly (last_as _ found gave g f) (λ m i b c p. (still_plain c p, still_silent c p))
missing_plainly no_socket.Full gave found g f = subst Plainly (last_as _ found gave g f) (λ m i b c p. (still_plain c p, still_silent c p))
missing_plainly no_socket.Failed gave found g f = subst Plainly (last_as _ found gave g f) (λ m i b c p. (still_plain c p, still_silent c p))

link_comes : (way : Way) (key : ℕ) (link : Link) (server : List ℕ) (old new : Slab Link) (heard closed calls : List Call) (gave : Step) (buffer : List ℕ) (moment id : ℕ) (found : Found) → HearsWay (link_socket key) server way heard gave buffer → Goes gave key link old closed new → calls ≡ heard ++ closed → IsFound gave found → Comes moment id found buffer calls
link_comes Udp key link server old new heard closed calls gave buffer moment id found h goes whole f = datagram_comes h.0 key link old new heard closed calls gave buffer moment id found h.1.0 h.1.1 goes whole f
link_comes Connecting key link server old new heard closed calls gave buffer moment id found h goes whole f =
    standing_plainly h.0 gave found h.1.1 f moment id buffer calls (still_as calls (heard ++ closed) whole (still_both heard closed (still_as heard _ h.1.0 ((tt, refl), tt)) (goes_still gave key link old closed new goes)))
link_comes Connected key link server old new heard closed calls gave buffer moment id found h goes whole f = stream_comes h.0 key link server old new heard closed calls gave buffer moment id found h.1.0 h.1.1 goes whole f
link_comes (Missing cause) key link server old new heard closed calls gave buffer moment id found h goes whole f =
    missing_plainly cause gave found h.1 f moment id buffer calls (still_as calls (heard ++ closed) whole (still_both heard closed (still_as heard [] h.0 tt) (goes_still gave key link old closed new goes)))

links_come : (key : ℕ) (old : Slab Link) (calls : List Call) (number : ℕ) (gave : Step) (buffer : List ℕ) (new : Slab Link) (moment id : ℕ) (found : Found) → LooksAt key old calls number gave buffer new → IsFound gave found → Comes moment id found buffer calls
links_come key old calls number gave buffer new moment id found h f = elim h [
  | inl none ↦ none_found found gave none.1.1.0 f
  | inr there ↦ let l = there.1 in link_comes there.0.way key there.0 there.0.server old new l.heard l.closed calls gave buffer moment id found l.hears l.goes l.whole f
]

looks_come : (source : Place) (a : Edge) (calls : List Call) (id : ℕ) (gave : Step) (buffer : List ℕ) (b : Edge) (moment : ℕ) (found : Found) → Looks source a calls id gave buffer b → IsFound gave found → Comes moment id found buffer calls × ((outside b ≡ outside a) × (b.log.text ≡ a.log.text))
looks_come place.Datagrams a calls id gave buffer b moment found h f = (requests_come a.hears moment id gave found buffer calls h.0 f, by_same a b h.1.1)
looks_come place.Listener a calls id gave buffer b moment found h f =
    (accepts_come a.hears a.seats a.next_conn a.clock a.retry calls gave b.seats b.retry moment id found buffer h.0 f, (ap outside h.1.1, ap (λ (e : Edge). e.log.text) h.1.1))
looks_come (place.Seat index) a calls id gave buffer b moment found h f = (seats_come index a.seats calls id gave buffer b.seats moment id found h.0 f, (ap outside h.1, ap (λ (e : Edge). e.log.text) h.1))
looks_come (place.Link key) a calls id gave buffer b moment found h f = (links_come key a.links calls id gave buffer b.links moment id found h.0 f, (ap outside h.1, ap (λ (e : Edge). e.log.text) h.1))

-- What `next` said.
heard_comes : (wake : Option ℕ) (e : ModelEvent) (a : Edge) (calls : List Call) (b : Edge) → Hears wake e a calls b → Came e calls × Stays a calls b
heard_comes wake e a calls b h =
    let q = quiet_runs wake a h.before h.between h.quiet in
    let l : ComesBy e.kind e h.last × ((printed h.last ≡ []) × ((outside h.after ≡ outside h.between) × (h.after.log.text ≡ h.between.log.text))) = elim h.heard [
      | inl found ↦
          let c = looks_come (place_at found.token) h.between h.last found.id found.gave found.buffer h.after found.moment found.found found.looks found.one in
          (subst (λ (x : ModelEvent). ComesBy x.kind x h.last) (sym found.event) c.0.0, (c.0.1, c.1))
      | inr tick ↦ (subst (λ (x : ModelEvent). ComesBy x.kind x h.last) (sym tick.event) (subst ArePlain (sym tick.none) tt), (ap printed tick.none, (ap outside tick.left, ap (λ (x : Edge). x.log.text) tick.left)))
    ] in
    let text : b.log.text ≡ h.between.log.text = ap (λ (x : Edge). x.log.text) h.left ∙ l.1.1.1 in
    let all : printed calls ≡ printed h.before = ap printed h.whole ∙ (printed_append h.before h.last ∙ (ap (λ t. printed h.before ++ t) l.1.0 ∙ append-nil (printed h.before))) in (
      (h.before, h.last, (h.whole, (q.0, l.0))),
      (ap outside h.left ∙ (l.1.1.0 ∙ q.1.0), ap (λ t. t ++ b.log.text) all ∙ (ap (λ t. printed h.before ++ t) text ∙ q.1.1)),
    )

said_comes : (wake : Option ℕ) (said : Answer) (a : Edge) (calls : List Call) (b : Edge) → Gave wake said a calls b → Said said calls × Stays a calls b
said_comes wake (history.gave e) a calls b g = heard_comes wake e a calls b g
said_comes wake history.ended a calls b g = absurd g
said_comes wake history.failed a calls b g =
    let q = quiet_runs wake a calls g.between g.quiet in
    (q.0, (ap outside g.left ∙ q.1.0, ap (λ (x : Edge). printed calls ++ x.log.text) g.left ∙ q.1.1))
said_comes wake (history.bad number) a calls b g = absurd g

none_comes : (a : Edge) (calls : List Call) (b : Edge) → NoneCame a calls b → ArePlain calls × Stays a calls b
none_comes a calls b g =
    let q = quiet_runs None a calls g.between g.quiet in
    (q.0, (ap outside g.left ∙ q.1.0, ap (λ (x : Edge). printed calls ++ x.log.text) g.left ∙ q.1.1))

-- Actions.
rest_still : (all : Bool) (socket : ℕ) → AreStill (if all then [] else call.close socket ∷ [])
rest_still true socket = tt
rest_still false socket = ((tt, refl), tt)

write_still : (way : Way) (socket : ℕ) (bytes : List ℕ) (said : Option ℕ) → AreStill (write_calls socket bytes way said)
write_still Udp socket bytes said = ((tt, refl), tt)
write_still Connecting socket bytes said = ((tt, refl), rest_still (took_all (length bytes) said) socket)
write_still Connected socket bytes said = ((tt, refl), rest_still (took_all (length bytes) said) socket)
write_still (Missing cause) socket bytes said = tt

-- Bytes for a connection: one write of all of them, or none.
abbrev PutsWhole : (bytes : List ℕ) → List Call → Type 0
PutsWhole bytes calls = (calls ≡ []) ⊎ ((at : ℕ) × (took : Option ℕ) × (calls ≡ call.write (seat_socket at) bytes took ∷ []))

put_whole : (empty : Bool) (index : ℕ) (bytes : List ℕ) (said : Option ℕ) (calls : List Call) → calls ≡ (if empty then call.write (seat_socket index) bytes said ∷ [] else []) → PutsWhole bytes calls × (printed calls ≡ [])
put_whole true index bytes said calls e = (inr (index, said, e), ap printed e)
put_whole false index bytes said calls e = (inl e, ap printed e)

puts_conn_whole : (failed : Bool) (index : ℕ) (seat : Seat) (conn : Conn) (bytes : List ℕ) (calls : List Call) (new : Seat) → PutsConn failed (seat_socket index) seat conn bytes calls new → PutsWhole bytes calls × (printed calls ≡ [])
puts_conn_whole true index seat conn bytes calls new p = (inl p.0, ap printed p.0)
puts_conn_whole false index seat conn bytes calls new p = put_whole (length seat.backlog == 0) index bytes p.0 calls p.1.0

puts_seat_whole : (conn : Option Conn) (index : ℕ) (seat : Seat) (bytes : List ℕ) (calls : List Call) (new : Seat) → PutsSeat conn (seat_socket index) seat bytes calls new → PutsWhole bytes calls × (printed calls ≡ [])
puts_seat_whole None index seat bytes calls new p = (inl p.0, ap printed p.0)
puts_seat_whole (Some conn) index seat bytes calls new p = puts_conn_whole conn.failed index seat conn bytes calls new p

udp_silent : (o : Opening) (socket : ℕ) (from : List ℕ) (port : ℕ) (server query : List ℕ) → printed (udp_calls socket from port server query o) ≡ []
udp_silent (opening.Refused cause) socket from port server query = refl
udp_silent opening.Unconnected socket from port server query = refl
udp_silent opening.Unsent socket from port server query = refl
udp_silent opening.Sent socket from port server query = refl

-- What an action printed: with what is gathered then, that before and its line, where each print went well.
abbrev Prints : Action → Edge → List Call → Edge → Type 0
Prints x a calls b = AllByRecursion IsPrinted calls → printed calls ++ b.log.text ≡ a.log.text ++ line_by x

-- No line, and nothing printed.
no_line : (a b : Edge) (calls : List Call) → printed calls ≡ [] → b.log.text ≡ a.log.text → AllByRecursion IsPrinted calls → printed calls ++ b.log.text ≡ a.log.text ++ []
no_line a b calls p t w = ap (λ l. l ++ b.log.text) p ∙ (t ∙ sym (append-nil a.log.text))

text_prints : (text : List ℕ) (old : Gathered) (calls : List Call) (new : Gathered) → text ≡ old.text → PrintsText text old calls new → (ArePlain calls × (printed calls ≡ old.text)) × (new.text ≡ [])
text_prints [] old calls new e p = ((subst ArePlain (sym p.0) tt, ap printed p.0 ∙ e), ap (λ (g : Gathered). g.text) p.1 ∙ sym e)
text_prints (x ∷ xs) old calls new e p = ((subst ArePlain (sym p.1.0) (tt, tt), ap printed p.1.0 ∙ (append-nil (x ∷ xs) ∙ e)), ap (λ (g : Gathered). g.text) p.1.1)

whole_line : (text before after : List ℕ) (calls : List Call) → printed calls ≡ text ++ 10 ∷ [] → after ≡ before → before ≡ [] → printed calls ++ after ≡ before ++ (text ++ 10 ∷ [])
whole_line text before after calls p same none =
    ap (λ l. l ++ after) p
    ∙ (ap (λ l. (text ++ 10 ∷ []) ++ l) (same ∙ none)
    ∙ (append-nil (text ++ 10 ∷ []) ∙ ap (λ l. l ++ (text ++ 10 ∷ [])) (sym none)))

puts_prints : (room : Bool) (text : List ℕ) (old : Gathered) (calls : List Call) (new : Gathered) → (room ≡ true) ⊎ (old.text ≡ []) → PutsLineIf room text old calls new → ArePlain calls × (AllByRecursion IsPrinted calls → printed calls ++ new.text ≡ old.text ++ (text ++ 10 ∷ []))
puts_prints true text old calls new e p =
    (subst ArePlain (sym p.0) tt, λ w. ap (λ cs. printed cs ++ new.text) p.0 ∙ (ap (λ (g : Gathered). g.text) p.1 ∙ append_assoc old.text text (10 ∷ [])))
puts_prints false text old calls new e p = elim p [
  | inl failed ↦ (subst ArePlain (sym failed.0) (tt, tt), λ w. absurd (subst (AllByRecursion IsPrinted) failed.0 w).0)
  | inr whole ↦ (
    subst ArePlain (sym whole.1.0) (tt, (tt, tt)),
    λ w. elim e [
      | inl wrong ↦ cc
      | inr none ↦ whole_line text old.text new.text calls (ap printed whole.1.0) (ap (λ (g : Gathered). g.text) whole.1.1) none
    ],
  )
]

lines_print : (room : Bool) (text : List ℕ) (old : Gathered) (calls : List Call) (new : Gathered) → nat_lt (length old.text + length text) 65536 ≡ room → LinesIf room text old calls new → ArePlain calls × (AllByRecursion IsPrinted calls → printed calls ++ new.text ≡ old.text ++ (text ++ 10 ∷ []))
lines_print true text old calls new e p = puts_prints _ text old calls new (inl e) p
lines_print false text old calls new e p =
    let before = text_prints old.text old p.1 p.0 refl p.3.1.0 in
    let behind = puts_prints _ text p.0 p.2 new (inr before.1) p.3.1.1 in (
      subst ArePlain (sym p.3.0) (each_append IsPlain p.1 p.2 before.0.0 behind.0),
      λ w.
          ap (λ cs. printed cs ++ new.text) p.3.0
          ∙ (ap (λ l. l ++ new.text) (printed_append p.1 p.2)
          ∙ (append_assoc (printed p.1) (printed p.2) new.text
          ∙ (ap (λ l. printed p.1 ++ l) (behind.1 (each_split IsPrinted p.1 p.2 (subst (AllByRecursion IsPrinted) p.3.0 w)).1)
          ∙ (ap (λ l. printed p.1 ++ (l ++ (text ++ 10 ∷ []))) before.1 ∙ ap (λ l. l ++ (text ++ 10 ∷ [])) before.0.1)))),
    )

reply_done : (addr : List ℕ) (port : ℕ) (bytes : List ℕ) (hears : Bool) (from : List ℕ) (calls : List Call) → Replies addr port bytes hears calls → Done (reply addr port bytes) hears from calls × (printed calls ≡ [])
reply_done addr port bytes true from calls r = (r, ap printed r.1)
reply_done addr port bytes false from calls r = (r, ap printed r)

-- An action leaves whether clients are heard and where links are opened from.
abbrev Does : Action → Edge → List Call → Edge → Type 0
Does x a calls b = Done x a.hears a.from calls × ((outside b ≡ outside a) × Prints x a calls b)

still_does : (a b : Edge) (calls : List Call) → AreStill calls → outside b ≡ outside a → b.log.text ≡ a.log.text → ArePlain calls × ((outside b ≡ outside a) × (AllByRecursion IsPrinted calls → printed calls ++ b.log.text ≡ a.log.text ++ []))
still_does a b calls s o t = (still_plain calls s, (o, no_line a b calls (still_silent calls s) t))

makes_does : (x : Action) (a : Edge) (calls : List Call) (b : Edge) → Makes x a calls b → Does x a calls b
makes_does (reply addr port bytes) a calls b m =
    let r = reply_done addr port bytes a.hears a.from calls m.0 in
    (r.0, (ap outside m.1, no_line a b calls r.1 (ap (λ (e : Edge). e.log.text) m.1)))
makes_does (conn_reply conn bytes) a calls b m = elim m.0 [
  | inl none ↦ (inl none.1.0, (ap outside m.1, no_line a b calls (ap printed none.1.0) (ap (λ (e : Edge). e.log.text) m.1)))
  | inr there ↦
      let whole = puts_seat_whole there.1.conn there.0 there.1 bytes calls there.2 there.3.1.0 in
      (whole.0, (ap outside m.1, no_line a b calls whole.1 (ap (λ (e : Edge). e.log.text) m.1)))
]
makes_does (conn_close conn) a calls b m = elim m.0 [
  | inl none ↦ (inl none.1.0, (ap outside m.1, no_line a b calls (ap printed none.1.0) (ap (λ (e : Edge). e.log.text) m.1)))
  | inr there ↦ (inr (there.0, there.2.1.0), (ap outside m.1, no_line a b calls (ap printed there.2.1.0) (ap (λ (e : Edge). e.log.text) m.1)))
]
makes_does (udp link port server query) a calls b m = elim m.0 [
  | inl full ↦ (inl full.1.0, (ap outside m.1, no_line a b calls (ap printed full.1.0) (ap (λ (e : Edge). e.log.text) m.1)))
  | inr made ↦ (
    inr (link_socket a.links.vacant_key, made.0, (link_high a.links.vacant_key, made.1.0)),
    (ap outside m.1, no_line a b calls (ap printed made.1.0 ∙ udp_silent made.0 _ a.from port server query) (ap (λ (e : Edge). e.log.text) m.1)),
  )
]
makes_does (tcp link port server) a calls b m = elim m.0 [
  | inl full ↦ (inl full.1.0, (ap outside m.1, no_line a b calls (ap printed full.1.0) (ap (λ (e : Edge). e.log.text) m.1)))
  | inr made ↦ (
    inr (link_socket a.links.vacant_key, made.0, (link_high a.links.vacant_key, made.1.0)),
    (ap outside m.1, no_line a b calls (ap printed made.1.0) (ap (λ (e : Edge). e.log.text) m.1)),
  )
]
makes_does (link_write link bytes) a calls b m =
    let s : AreStill calls = elim m.0 [
      | inl none ↦ still_as calls [] none.1.0 tt
      | inr there ↦ still_as calls _ there.3.1.1.0 (write_still there.1.way (link_socket there.0) bytes there.2)
    ] in
    still_does a b calls s (ap outside m.1) (ap (λ (e : Edge). e.log.text) m.1)
makes_does (link_close link) a calls b m =
    let s : AreStill calls = elim m.0 [
      | inl none ↦ still_as calls [] none.1.0 tt
      | inr there ↦ still_as calls _ there.2.1.1.0 (close_still there.1.way (link_socket there.0))
    ] in
    still_does a b calls s (ap outside m.1) (ap (λ (e : Edge). e.log.text) m.1)
makes_does (line text) a calls b m =
    let l = lines_print _ text a.log calls b.log refl m.0 in
    (l.0, (ap outside m.1, l.1))

-- Listening prints nothing.
hearing_silent : (h : Hearing) (addr : List ℕ) (port : ℕ) → printed (listen_calls addr port h) ≡ []
hearing_silent (refused cause) addr port = refl
hearing_silent deaf addr port = refl
hearing_silent both addr port = refl

-- One exchange before others: what was printed.
prints_then : (before between after one rest : List ℕ) (mine others : List Call) → (AllByRecursion IsPrinted mine → printed mine ++ between ≡ before ++ one) → (AllByRecursion IsPrinted others → printed others ++ after ≡ between ++ rest) → AllByRecursion IsPrinted (mine ++ others) → printed (mine ++ others) ++ after ≡ before ++ (one ++ rest)
prints_then before between after one rest mine others p q w =
    let both = each_split IsPrinted mine others w in
    ap (λ l. l ++ after) (printed_append mine others)
    ∙ (append_assoc (printed mine) (printed others) after
    ∙ (ap (λ l. printed mine ++ l) (q both.1)
    ∙ (sym (append_assoc (printed mine) between rest)
    ∙ (ap (λ l. l ++ rest) (p both.0) ∙ append_assoc before one rest))))

-- The same where it has no line.
silent_then : (before between after rest : List ℕ) (mine others : List Call) → printed mine ++ between ≡ before → (AllByRecursion IsPrinted others → printed others ++ after ≡ between ++ rest) → AllByRecursion IsPrinted (mine ++ others) → printed (mine ++ others) ++ after ≡ before ++ rest
silent_then before between after rest mine others p q w =
    prints_then before between after [] rest mine others (λ v. p ∙ sym (append-nil before)) q w

module _ {S : Type 0} (called : S → List Call → S → Type 0) (none : (a : S) → called a [] a) (join : (a b c : S) (xs ys : List Call) → called a xs b → called b ys c → called a (xs ++ ys) c) where
  -- The calls of each exchange were made, one after the other.
  parts_called : (a b : Shown S) (xs : List Passed) (p : Accounted called a xs b) → called a.system (joined (parts_of called a b xs p)) b.system
  parts_called a b [] p = subst (λ (w : Shown S). called a.system [] w.system) (sym p) (none a.system)
  parts_called a b (x ∷ xs) p = join _ _ _ _ _ p.1.0.1.0 (parts_called p.0 b xs p.1.1)

  -- They serve it.
  parts_serve : (a b : Shown S) (xs : List Passed) (p : Accounted called a xs b) → Serves a.port a.edge.hears a.edge.from xs (parts_of called a b xs p)
  parts_serve a b [] p = refl
  parts_serve a b (exchanged (listened addr send_from ok) ∷ xs) p =
      let l = p.1.0.1.1.0 in
      let rest = parts_of called p.0 b xs p.1.1 in
      let port : p.0.port ≡ a.port = ap (λ (w : Shown S). w.port) p.1.0.1.1.1 in
      let hears : p.0.edge.hears ≡ hears_after a.edge.hears l.0.0 = l.0.1.1.1 in
      let from : p.0.edge.from ≡ (if ok then send_from else a.edge.from) = ap (λ (e : Edge). e.from) l.1 in (
        l.0.0,
        (
          l.0.1.0,
          (
            l.0.1.1.0,
            subst (λ (n : ℕ). Serves n (hears_after a.edge.hears l.0.0) (if ok then send_from else a.edge.from) xs rest) port
                (subst (λ (h : Bool). Serves p.0.port h (if ok then send_from else a.edge.from) xs rest) hears
                (subst (λ (f : List ℕ). Serves p.0.port p.0.edge.hears f xs rest) from (parts_serve p.0 b xs p.1.1))),
          ),
        ),
      )
  parts_serve a b (exchanged (gathered e) ∷ xs) p =
      let s = heard_comes None e a.edge p.1.0.0 p.0.edge p.1.0.1.1.0.0 in
      let rest = parts_of called p.0 b xs p.1.1 in
      let port : p.0.port ≡ a.port = ap (λ (w : Shown S). w.port) p.1.0.1.1.1 in (
        (s.0, p.1.0.1.1.0.1),
        subst (λ (n : ℕ). Serves n a.edge.hears a.edge.from xs rest) port
            (subst (λ (o : Bool × List ℕ). Serves p.0.port o.0 o.1 xs rest) s.1.0 (parts_serve p.0 b xs p.1.1)),
      )
  parts_serve a b (none_came ∷ xs) p =
      let s = none_comes a.edge p.1.0.0 p.0.edge p.1.0.1.1.0 in
      let rest = parts_of called p.0 b xs p.1.1 in
      let port : p.0.port ≡ a.port = ap (λ (w : Shown S). w.port) p.1.0.1.1.1 in (
        (s.0, p.1.0.1.1.0.at_hand),
        subst (λ (n : ℕ). Serves n a.edge.hears a.edge.from xs rest) port
            (subst (λ (o : Bool × List ℕ). Serves p.0.port o.0 o.1 xs rest) s.1.0 (parts_serve p.0 b xs p.1.1)),
      )
  parts_serve a b (exchanged (asked wake said) ∷ xs) p =
      let s = said_comes wake said a.edge p.1.0.0 p.0.edge p.1.0.1.1.0 in
      let rest = parts_of called p.0 b xs p.1.1 in
      let port : p.0.port ≡ a.port = ap (λ (w : Shown S). w.port) p.1.0.1.1.1 in (
        s.0,
        subst (λ (n : ℕ). Serves n a.edge.hears a.edge.from xs rest) port
            (subst (λ (o : Bool × List ℕ). Serves p.0.port o.0 o.1 xs rest) s.1.0 (parts_serve p.0 b xs p.1.1)),
      )
  parts_serve a b (exchanged (did x) ∷ xs) p =
      let d = makes_does x a.edge p.1.0.0 p.0.edge p.1.0.1.1.0 in
      let rest = parts_of called p.0 b xs p.1.1 in
      let port : p.0.port ≡ a.port = ap (λ (w : Shown S). w.port) p.1.0.1.1.1 in (
        d.0,
        subst (λ (n : ℕ). Serves n a.edge.hears a.edge.from xs rest) port
            (subst (λ (o : Bool × List ℕ). Serves p.0.port o.0 o.1 xs rest) d.1.0 (parts_serve p.0 b xs p.1.1)),
      )

  -- They print its lines.
  parts_print : (a b : Shown S) (xs : List Passed) (p : Accounted called a xs b) → PrintsLines a.edge.log.text b.edge.log.text (exchanges_of xs) (joined (parts_of called a b xs p))
  parts_print a b [] p = λ w. ap (λ (x : Shown S). x.edge.log.text) p ∙ sym (append-nil a.edge.log.text)
  parts_print a b (exchanged (listened addr send_from ok) ∷ xs) p =
      let l = p.1.0.1.1.0 in
      let text : printed p.1.0.0 ++ p.0.edge.log.text ≡ a.edge.log.text = ap (λ cs. printed cs ++ p.0.edge.log.text) l.0.1.0 ∙ (ap (λ t. t ++ p.0.edge.log.text) (hearing_silent l.0.0 addr a.port) ∙ ap (λ (e : Edge). e.log.text) l.1) in
      λ w. silent_then a.edge.log.text p.0.edge.log.text b.edge.log.text (lines_in (exchanges_of xs)) p.1.0.0 (joined (parts_of called p.0 b xs p.1.1)) text (parts_print p.0 b xs p.1.1) w
  parts_print a b (exchanged (gathered e) ∷ xs) p =
      let s = heard_comes None e a.edge p.1.0.0 p.0.edge p.1.0.1.1.0.0 in
      λ w. silent_then a.edge.log.text p.0.edge.log.text b.edge.log.text (lines_in (exchanges_of xs)) p.1.0.0 (joined (parts_of called p.0 b xs p.1.1)) s.1.1 (parts_print p.0 b xs p.1.1) w
  parts_print a b (none_came ∷ xs) p =
      let s = none_comes a.edge p.1.0.0 p.0.edge p.1.0.1.1.0 in
      λ w. silent_then a.edge.log.text p.0.edge.log.text b.edge.log.text (lines_in (exchanges_of xs)) p.1.0.0 (joined (parts_of called p.0 b xs p.1.1)) s.1.1 (parts_print p.0 b xs p.1.1) w
  parts_print a b (exchanged (asked wake said) ∷ xs) p =
      let s = said_comes wake said a.edge p.1.0.0 p.0.edge p.1.0.1.1.0 in
      λ w. silent_then a.edge.log.text p.0.edge.log.text b.edge.log.text (lines_in (exchanges_of xs)) p.1.0.0 (joined (parts_of called p.0 b xs p.1.1)) s.1.1 (parts_print p.0 b xs p.1.1) w
  parts_print a b (exchanged (did x) ∷ xs) p =
      let d = makes_does x a.edge p.1.0.0 p.0.edge p.1.0.1.1.0 in
      λ w. prints_then a.edge.log.text p.0.edge.log.text b.edge.log.text (line_by x) (lines_in (exchanges_of xs)) p.1.0.0 (joined (parts_of called p.0 b xs p.1.1)) d.1.1 (parts_print p.0 b xs p.1.1) w

  pub runs_service : (a b : Shown S) (xs : List Exchange) → Explained called a xs b → RunsService called a xs b
  runs_service a b xs p =
      let parts : List (List Call) = parts_of called a b p.0 p.1.1 in (
        p.0,
        parts,
        (
          p.1.0,
          (
            parts_called a b p.0 p.1.1,
            (
              parts_serve a b p.0 p.1.1,
              (
                subst (λ (x : List Exchange). PrintsLines a.edge.log.text b.edge.log.text x (joined parts)) p.1.0 (parts_print a b p.0 p.1.1),
                λ o. all_answered called a b p.0 p.1.1 o,
              ),
            ),
          ),
        ),
      )
