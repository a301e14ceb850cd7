-- What was sent to clients is exactly the replies.
use Rattle.std.specs.Prelude.{◌≡◌, ℕ, Bool, true, false, if◌then◌else◌, List, [], ◌∷◌, ◌++◌, length, ◌==◌, refl}
use Rattle.std.proofs.Common.{inl, inr, sym, subst, ◌∙◌, ap, append_assoc}
use Rattle.std.specs.declared.option.Option.{Option}
use Rattle.std.specs.declared.option.Option.TheVariants.{None, Some}
use Rattle.dc_model.specs.Event.{Event as ModelEvent, Action, reply, conn_reply, conn_close, udp, tcp, link_write, link_close, line}
use Rattle.dc_event.specs.History.{Answer, Exchange, listened, asked, gathered, did}
use Rattle.dc_event.specs.History as history
use Rattle.dc_system.specs.Call.{Call}
use Rattle.dc_system.specs.Call as call
use Rattle.dc_system.specs.declared.answers.Accepted.{Accepted}
use Rattle.dc_system.specs.declared.answers.Accepted.TheVariants as accepted
use Rattle.dc_sock.specs.declared.found.Step.{Step}
use Rattle.dc_sock.specs.declared.found.Step.TheVariants as step
use Rattle.dc_sock.specs.declared.link.Link.{Link}
use Rattle.dc_sock.specs.declared.link.Opening.{Opening}
use Rattle.dc_sock.specs.declared.link.Opening.TheVariants as opening
use Rattle.dc_sock.specs.declared.link.Way.{Way}
use Rattle.dc_sock.specs.declared.link.Way.TheVariants.{Udp, Connecting, Connected, Missing}
use Rattle.dc_sock.specs.declared.place.Place.{Place}
use Rattle.dc_sock.specs.declared.place.Place.TheVariants as place
use Rattle.dc_sock.specs.declared.seat.Conn.{Conn}
use Rattle.dc_sock.specs.declared.seat.Seat.{Seat}
use Rattle.slab.specs.Slab.{Slab}
use Rattle.dc_sock.specs.ClientCalls.{HearsRequests, AcceptGives, Accepts, HearsSeat, GoesSeat, Replies, seat_socket}
use Rattle.dc_system.specs.declared.answers.Part.{Part}
use Rattle.dc_system.specs.declared.answers.Part.TheVariants as part
use Rattle.dc_sock.specs.Edge.{Edge, QuietAccept, QuietRead, QuietCall, QuietStep, Quiet, Looks, Hears, Fails, NoneCame}
use Rattle.dc_sock.proofs.RoundLemmas.{passes_same}
use Rattle.dc_sock.specs.LinkCalls.{udp_calls, close_calls, write_calls, took_all, HearsWay}
use Rattle.dc_sock.specs.Links.{Goes, LooksAt, link_socket}
use Rattle.dc_sock.specs.Place.{place_at}
use Rattle.dc_sock.specs.Log.{Gathered, PrintsText, PutsLineIf, LinesIf}
use Rattle.dc_sock.specs.SeatCalls.{PutsConn, PutsSeat, ReadsBehind, LooksAtConn, LooksAtSeat}
use Rattle.dc_sock.specs.Passed.{Passed, exchanged, none_came, exchanges_of}
use Rattle.dc_sock.specs.World.{Shown, Makes, Gave, Accounted, Explained}
use Rattle.dc_sock.specs.Promises.{sent_by, sent_to, reply_of, GoesOnListening, SendsReplies}

sent_append : (xs ys : List Call) → sent_to (xs ++ ys) ≡ sent_to xs ++ sent_to ys
sent_append [] ys = refl
sent_append (x ∷ xs) ys = ap (λ l. sent_by x ++ l) (sent_append xs ys) ∙ sym (append_assoc (sent_by x) (sent_to xs) (sent_to ys))

-- Nothing is sent by both where nothing is by each.
none_both : (xs ys : List Call) → sent_to xs ≡ [] → sent_to ys ≡ [] → sent_to (xs ++ ys) ≡ []
none_both xs ys p q = sent_append xs ys ∙ (ap (λ l. l ++ sent_to ys) p ∙ q)

none_as : (calls xs : List Call) → calls ≡ xs → sent_to xs ≡ [] → sent_to calls ≡ []
none_as calls xs e p = ap sent_to e ∙ p

accept_hears : (a : Edge) (s : ℕ) (answer : Accepted) (b : Edge) → QuietAccept a s answer b → b.hears ≡ a.hears
accept_hears a s accepted.Nothing b p = ap (λ (e : Edge). e.hears) p
accept_hears a s accepted.Aborted b p = ap (λ (e : Edge). e.hears) p
accept_hears a s accepted.Failed b p = ap (λ (e : Edge). e.hears) p
accept_hears a s (accepted.Connection peer) b p = ap (λ (e : Edge). e.hears) p.1.1

read_hears : (a : Edge) (s : ℕ) (answer : Part) (b : Edge) → QuietRead a s answer b → b.hears ≡ a.hears
read_hears a s part.Nothing b p = ap (λ (e : Edge). e.hears) p
read_hears a s (part.Bytes len) b p = absurd p
read_hears a s part.End b p = ap (λ (e : Edge). e.hears) p.3.1.1.1.1
read_hears a s part.Failed b p = absurd p

call_silent : (wake : Option ℕ) (a : Edge) (x : Call) (b : Edge) → QuietCall wake a x b → (sent_by x ≡ []) × (b.hears ≡ a.hears)
call_silent wake a (call.bind s addr port answer) b p = absurd p
call_silent wake a (call.connect s addr port answer) b p = absurd p
call_silent wake a (call.send s bytes answer) b p = absurd p
call_silent wake a (call.send_to s addr port bytes answer) b p = absurd p
call_silent wake a (call.receive s answer bytes) b p = (refl, ap (λ (e : Edge). e.hears) p.1)
call_silent wake a (call.listen s addr port answer) b p = absurd p
call_silent wake a (call.accept l s answer) b p = (refl, accept_hears a s answer b p)
call_silent wake a (call.begin s addr port server to answer) b p = absurd p
call_silent wake a (call.stands s answer) b p = (refl, ap (λ (e : Edge). e.hears) p.1)
call_silent wake a (call.read s answer bytes) b p = (refl, read_hears a s answer b p)
call_silent wake a (call.write s bytes answer) b p = (refl, ap (λ (e : Edge). e.hears) p.3.1.1.1.1)
call_silent wake a (call.close s) b p = (refl, ap (λ (e : Edge). e.hears) p.1)
call_silent wake a (call.wait pause answer) b p = (refl, ap (λ (e : Edge). e.hears) p.1)
call_silent wake a (call.ready answer) b p = (refl, ap (λ (e : Edge). e.hears) p)
call_silent wake a (call.now answer) b p = (refl, ap (λ (e : Edge). e.hears) p)
call_silent wake a (call.print bytes answer) b p = (refl, ap (λ (e : Edge). e.hears) p.1)

step_silent : (wake : Option ℕ) (a : Edge) (x : Call) (b : Edge) → QuietStep wake a x b → (sent_by x ≡ []) × (b.hears ≡ a.hears)
step_silent wake a x b q =
    let one = call_silent wake q.0 x b q.1.1.0 in
    (one.0, one.1 ∙ ap (λ (e : Edge). e.hears) (passes_same a q.0 q.1.0))

quiet_silent : (wake : Option ℕ) (a : Edge) (xs : List Call) (b : Edge) → Quiet wake a xs b → (sent_to xs ≡ []) × (b.hears ≡ a.hears)
quiet_silent wake a [] b q = (refl, ap (λ (e : Edge). e.hears) (passes_same a b q))
quiet_silent wake a (x ∷ xs) b q =
    let one = step_silent wake a x q.0 q.1.0 in
    let rest = quiet_silent wake q.0 xs b q.1.1 in
    (ap (λ l. l ++ sent_to xs) one.0 ∙ rest.0, rest.1 ∙ one.1)

requests_silent : (hears : Bool) (calls : List Call) (gave : Step) (buffer : List ℕ) → HearsRequests hears calls gave buffer → sent_to calls ≡ []
requests_silent true calls gave buffer h = ap sent_to h.1.0
requests_silent false calls gave buffer h = ap sent_to h.0

accept_silent : (answer : Accepted) (old : List Seat) (next : ℕ) (clock : Option ℕ) (calls : List Call) (gave : Step) (new : List Seat) (retry : Option ℕ) → AcceptGives answer old next clock calls gave new retry → sent_to calls ≡ []
accept_silent accepted.Nothing old next clock calls gave new retry h = ap sent_to h.1.0
accept_silent accepted.Aborted old next clock calls gave new retry h = ap sent_to h.1.0
accept_silent accepted.Failed old next clock calls gave new retry h = ap sent_to h.1.0
accept_silent (accepted.Connection peer) old next clock calls gave new retry h = elim h [
  | inl kept ↦ ap sent_to kept.2.1.1.0
  | inr closed ↦ ap sent_to closed.1.0
]

accepts_silent : (hears : Bool) (old : List Seat) (next : ℕ) (clock before : Option ℕ) (calls : List Call) (gave : Step) (new : List Seat) (retry : Option ℕ) → Accepts hears old next clock before calls gave new retry → sent_to calls ≡ []
accepts_silent true old next clock before calls gave new retry h = accept_silent h.0 old next clock calls gave new retry h.1
accepts_silent false old next clock before calls gave new retry h = ap sent_to h.0

flushed_silent : (empty : Bool) (socket : ℕ) (bytes : List ℕ) (flush : Option ℕ) → sent_to (if empty then [] else call.write socket bytes flush ∷ []) ≡ []
flushed_silent true socket bytes flush = refl
flushed_silent false socket bytes flush = refl

reads_silent : (rest : Option (List ℕ)) (socket : ℕ) (conn : Conn) (flushed calls : List Call) (gave : Step) (buffer : List ℕ) (new : Seat) → sent_to flushed ≡ [] → ReadsBehind socket conn rest flushed calls gave buffer new → sent_to calls ≡ []
reads_silent None socket conn flushed calls gave buffer new f r = none_as calls flushed r.0 f
reads_silent (Some rest) socket conn flushed calls gave buffer new f r = ap sent_to r.1.0 ∙ none_both flushed _ f refl

conn_silent : (failed : Bool) (socket : ℕ) (conn : Conn) (waiting : List ℕ) (calls : List Call) (gave : Step) (buffer : List ℕ) (new : Seat) → LooksAtConn socket conn waiting failed calls gave buffer new → sent_to calls ≡ []
conn_silent true socket conn waiting calls gave buffer new l = ap sent_to l.0
conn_silent false socket conn waiting calls gave buffer new l = reads_silent _ socket conn _ calls gave buffer new (flushed_silent (length waiting == 0) socket waiting l.0) l.1

seat_silent : (conn : Option Conn) (socket : ℕ) (seat : Seat) (calls : List Call) (id : ℕ) (gave : Step) (buffer : List ℕ) (new : Seat) → LooksAtSeat socket seat conn calls id gave buffer new → sent_to calls ≡ []
seat_silent None socket seat calls id gave buffer new l = ap sent_to l.0
seat_silent (Some conn) socket seat calls id gave buffer new l = conn_silent conn.failed socket conn seat.backlog calls gave buffer new l.1

goes_seat_silent : (gave : Step) (index : ℕ) (after : Seat) (old : List Seat) (calls : List Call) (new : List Seat) → GoesSeat gave index after old calls new → sent_to calls ≡ []
goes_seat_silent step.Nothing index after old calls new h = ap sent_to h.0
goes_seat_silent (step.Event found) index after old calls new h = ap sent_to h.0
goes_seat_silent (step.Last found) index after old calls new h = ap sent_to h.0

hears_seat_silent : (index : ℕ) (old : List Seat) (calls : List Call) (id : ℕ) (gave : Step) (buffer : List ℕ) (new : List Seat) → HearsSeat index old calls id gave buffer new → sent_to calls ≡ []
hears_seat_silent index old calls id gave buffer new h = elim h [
  | inl none ↦ ap sent_to none.0
  | inr there ↦
      let l = there.1 in
      ap sent_to l.whole ∙ none_both l.heard l.closed (seat_silent there.0.conn (seat_socket index) there.0 l.heard id gave buffer l.after l.looks) (goes_seat_silent gave index l.after old l.closed new l.goes)
]

way_silent : (way : Way) (socket : ℕ) (server : List ℕ) (calls : List Call) (gave : Step) (buffer : List ℕ) → HearsWay socket server way calls gave buffer → sent_to calls ≡ []
way_silent Udp socket server calls gave buffer h = ap sent_to h.1.0
way_silent Connecting socket server calls gave buffer h = ap sent_to h.1.0
way_silent Connected socket server calls gave buffer h = ap sent_to h.1.0
way_silent (Missing cause) socket server calls gave buffer h = ap sent_to h.0

close_silent : (way : Way) (socket : ℕ) → sent_to (close_calls socket way) ≡ []
close_silent Udp socket = refl
close_silent Connecting socket = refl
close_silent Connected socket = refl
close_silent (Missing cause) socket = refl

goes_silent : (gave : Step) (key : ℕ) (link : Link) (old : Slab Link) (calls : List Call) (new : Slab Link) → Goes gave key link old calls new → sent_to calls ≡ []
goes_silent step.Nothing key link old calls new h = ap sent_to h.0
goes_silent (step.Event found) key link old calls new h = ap sent_to h.0
goes_silent (step.Last found) key link old calls new h = ap sent_to h.0 ∙ close_silent link.way (link_socket key)

link_silent : (key : ℕ) (old : Slab Link) (calls : List Call) (id : ℕ) (gave : Step) (buffer : List ℕ) (new : Slab Link) → LooksAt key old calls id gave buffer new → sent_to calls ≡ []
link_silent key old calls id gave buffer new h = elim h [
  | inl none ↦ ap sent_to none.1.0
  | inr there ↦
      let l = there.1 in
      ap sent_to l.whole ∙ none_both l.heard l.closed (way_silent there.0.way (link_socket key) there.0.server l.heard gave buffer l.hears) (goes_silent gave key there.0 old l.closed new l.goes)
]

looks_silent : (source : Place) (a : Edge) (calls : List Call) (id : ℕ) (gave : Step) (buffer : List ℕ) (b : Edge) → Looks source a calls id gave buffer b → (sent_to calls ≡ []) × (b.hears ≡ a.hears)
looks_silent place.Datagrams a calls id gave buffer b h = (requests_silent a.hears calls gave buffer h.0, ap (λ (e : Edge). e.hears) h.1.1)
looks_silent place.Listener a calls id gave buffer b h = (accepts_silent a.hears a.seats a.next_conn a.clock a.retry calls gave b.seats b.retry h.0, ap (λ (e : Edge). e.hears) h.1.1)
looks_silent (place.Seat index) a calls id gave buffer b h = (hears_seat_silent index a.seats calls id gave buffer b.seats h.0, ap (λ (e : Edge). e.hears) h.1)
looks_silent (place.Link key) a calls id gave buffer b h = (link_silent key a.links calls id gave buffer b.links h.0, ap (λ (e : Edge). e.hears) h.1)

heard_silent : (wake : Option ℕ) (e : ModelEvent) (a : Edge) (calls : List Call) (b : Edge) → Hears wake e a calls b → (sent_to calls ≡ []) × (b.hears ≡ a.hears)
heard_silent wake e a calls b h =
    let q = quiet_silent wake a h.before h.between h.quiet in
    let l : (sent_to h.last ≡ []) × (h.after.hears ≡ h.between.hears) = elim h.heard [
      | inl found ↦ looks_silent (place_at found.token) h.between h.last found.id found.gave found.buffer h.after found.looks
      | inr tick ↦ (ap sent_to tick.none, ap (λ (x : Edge). x.hears) tick.left)
    ] in
    (ap sent_to h.whole ∙ none_both h.before h.last q.0 l.0, ap (λ (x : Edge). x.hears) h.left ∙ (l.1 ∙ q.1))

fails_silent : (wake : Option ℕ) (a : Edge) (calls : List Call) (b : Edge) → Fails wake a calls b → (sent_to calls ≡ []) × (b.hears ≡ a.hears)
fails_silent wake a calls b f = let q = quiet_silent wake a calls f.between f.quiet in (q.0, ap (λ (x : Edge). x.hears) f.left ∙ q.1)

none_silent : (a : Edge) (calls : List Call) (b : Edge) → NoneCame a calls b → (sent_to calls ≡ []) × (b.hears ≡ a.hears)
none_silent a calls b n = let q = quiet_silent None a calls n.between n.quiet in (q.0, ap (λ (x : Edge). x.hears) n.left ∙ q.1)

gave_silent : (wake : Option ℕ) (said : Answer) (a : Edge) (calls : List Call) (b : Edge) → Gave wake said a calls b → (sent_to calls ≡ []) × (b.hears ≡ a.hears)
gave_silent wake (history.gave e) a calls b g = heard_silent wake e a calls b g
gave_silent wake history.ended a calls b g = absurd g
gave_silent wake history.failed a calls b g = fails_silent wake a calls b g
gave_silent wake (history.bad number) a calls b g = absurd g

udp_silent : (o : Opening) (socket : ℕ) (from : List ℕ) (port : ℕ) (server query : List ℕ) → sent_to (udp_calls socket from port server query o) ≡ []
udp_silent (opening.Refused cause) socket from port server query = refl
udp_silent opening.Unconnected socket from port server query = refl
udp_silent opening.Unsent socket from port server query = refl
udp_silent opening.Sent socket from port server query = refl

rest_silent : (all : Bool) (socket : ℕ) → sent_to (if all then [] else call.close socket ∷ []) ≡ []
rest_silent true socket = refl
rest_silent false socket = refl

write_silent : (way : Way) (socket : ℕ) (bytes : List ℕ) (said : Option ℕ) → sent_to (write_calls socket bytes way said) ≡ []
write_silent Udp socket bytes said = refl
write_silent Connecting socket bytes said = rest_silent (took_all (length bytes) said) socket
write_silent Connected socket bytes said = rest_silent (took_all (length bytes) said) socket
write_silent (Missing cause) socket bytes said = refl

put_silent : (empty : Bool) (socket : ℕ) (bytes : List ℕ) (said : Option ℕ) → sent_to (if empty then call.write socket bytes said ∷ [] else []) ≡ []
put_silent true socket bytes said = refl
put_silent false socket bytes said = refl

puts_conn_silent : (failed : Bool) (socket : ℕ) (seat : Seat) (conn : Conn) (bytes : List ℕ) (calls : List Call) (new : Seat) → PutsConn failed socket seat conn bytes calls new → sent_to calls ≡ []
puts_conn_silent true socket seat conn bytes calls new p = ap sent_to p.0
puts_conn_silent false socket seat conn bytes calls new p = ap sent_to p.1.0 ∙ put_silent (length seat.backlog == 0) socket bytes p.0

puts_seat_silent : (conn : Option Conn) (socket : ℕ) (seat : Seat) (bytes : List ℕ) (calls : List Call) (new : Seat) → PutsSeat conn socket seat bytes calls new → sent_to calls ≡ []
puts_seat_silent None socket seat bytes calls new p = ap sent_to p.0
puts_seat_silent (Some conn) socket seat bytes calls new p = puts_conn_silent conn.failed socket seat conn bytes calls new p

print_silent : (text : List ℕ) (old : Gathered) (calls : List Call) (new : Gathered) → PrintsText text old calls new → sent_to calls ≡ []
print_silent [] old calls new p = ap sent_to p.0
print_silent (x ∷ xs) old calls new p = ap sent_to p.1.0

puts_silent : (room : Bool) (text : List ℕ) (old : Gathered) (calls : List Call) (new : Gathered) → PutsLineIf room text old calls new → sent_to calls ≡ []
puts_silent true text old calls new p = ap sent_to p.0
puts_silent false text old calls new p = elim p [
  | inl failed ↦ ap sent_to failed.0
  | inr whole ↦ ap sent_to whole.1.0
]

lines_silent : (room : Bool) (text : List ℕ) (old : Gathered) (calls : List Call) (new : Gathered) → LinesIf room text old calls new → sent_to calls ≡ []
lines_silent true text old calls new p = puts_silent _ text old calls new p
lines_silent false text old calls new p = ap sent_to p.3.0 ∙ none_both p.1 p.2 (print_silent old.text old p.1 p.0 p.3.1.0) (puts_silent _ text p.0 p.2 new p.3.1.1)

replies_sent : (addr : List ℕ) (port : ℕ) (bytes : List ℕ) (hears : Bool) (calls : List Call) → hears ≡ true → Replies addr port bytes hears calls → sent_to calls ≡ (addr, (port, bytes)) ∷ []
replies_sent addr port bytes true calls e r = ap sent_to r.1
replies_sent addr port bytes false calls e r = cc

makes_replies : (x : Action) (a : Edge) (calls : List Call) (b : Edge) → a.hears ≡ true → Makes x a calls b → (sent_to calls ≡ reply_of x) × (b.hears ≡ a.hears)
makes_replies (reply addr port bytes) a calls b h m = (replies_sent addr port bytes a.hears calls h m.0, ap (λ (e : Edge). e.hears) m.1)
makes_replies (conn_reply conn bytes) a calls b h m = (
  elim m.0 [
    | inl none ↦ ap sent_to none.1.0
    | inr there ↦ puts_seat_silent there.1.conn (seat_socket there.0) there.1 bytes calls there.2 there.3.1.0
  ],
  ap (λ (e : Edge). e.hears) m.1,
)
makes_replies (conn_close conn) a calls b h m = (
  elim m.0 [
    | inl none ↦ ap sent_to none.1.0
    | inr there ↦ ap sent_to there.2.1.0
  ],
  ap (λ (e : Edge). e.hears) m.1,
)
makes_replies (udp link port server query) a calls b h m = (
  elim m.0 [
    | inl full ↦ ap sent_to full.1.0
    | inr made ↦ ap sent_to made.1.0 ∙ udp_silent made.0 _ a.from port server query
  ],
  ap (λ (e : Edge). e.hears) m.1,
)
makes_replies (tcp link port server) a calls b h m = (
  elim m.0 [
    | inl full ↦ ap sent_to full.1.0
    | inr made ↦ ap sent_to made.1.0
  ],
  ap (λ (e : Edge). e.hears) m.1,
)
makes_replies (link_write link bytes) a calls b h m = (
  elim m.0 [
    | inl none ↦ ap sent_to none.1.0
    | inr there ↦ ap sent_to there.3.1.1.0 ∙ write_silent there.1.way (link_socket there.0) bytes there.2
  ],
  ap (λ (e : Edge). e.hears) m.1,
)
makes_replies (link_close link) a calls b h m = (
  elim m.0 [
    | inl none ↦ ap sent_to none.1.0
    | inr there ↦ ap sent_to there.2.1.1.0 ∙ close_silent there.1.way (link_socket there.0)
  ],
  ap (λ (e : Edge). e.hears) m.1,
)
makes_replies (line text) a calls b h m = (lines_silent _ text a.log calls b.log m.0, ap (λ (e : Edge). e.hears) m.1)

module _ {S : Type 0} (called : S → List Call → S → Type 0) (none : (a : S) → called a [] a) (both : (a b c : S) (xs ys : List Call) → called a xs b → called b ys c → called a (xs ++ ys) c) where
  sends : (a b : Shown S) (xs : List Passed) → a.edge.hears ≡ true → GoesOnListening (exchanges_of xs) → Accounted called a xs b → SendsReplies called a (exchanges_of xs) b
  sends a b [] h l p = ([], (subst (λ (w : Shown S). called a.system [] w.system) (sym p) (none a.system), refl))
  sends a b (exchanged (did x) ∷ xs) h l p =
      let one = p.1.0 in
      let made = makes_replies x a.edge one.0 p.0.edge h one.1.1.0 in
      let rest = sends p.0 b xs (made.1 ∙ h) l p.1.1 in
      (one.0 ++ rest.0, (both _ _ _ _ _ one.1.0 rest.1.0, sent_append one.0 rest.0 ∙ (ap (λ m. m ++ sent_to rest.0) made.0 ∙ ap (λ m. reply_of x ++ m) rest.1.1)))
  sends a b (exchanged (gathered e) ∷ xs) h l p =
      let one = p.1.0 in
      let gave = heard_silent None e a.edge one.0 p.0.edge one.1.1.0.0 in
      let rest = sends p.0 b xs (gave.1 ∙ h) l p.1.1 in
      (one.0 ++ rest.0, (both _ _ _ _ _ one.1.0 rest.1.0, sent_append one.0 rest.0 ∙ (ap (λ m. m ++ sent_to rest.0) gave.0 ∙ rest.1.1)))
  sends a b (exchanged (asked wake said) ∷ xs) h l p =
      let one = p.1.0 in
      let gave = gave_silent wake said a.edge one.0 p.0.edge one.1.1.0 in
      let rest = sends p.0 b xs (gave.1 ∙ h) l p.1.1 in
      (one.0 ++ rest.0, (both _ _ _ _ _ one.1.0 rest.1.0, sent_append one.0 rest.0 ∙ (ap (λ m. m ++ sent_to rest.0) gave.0 ∙ rest.1.1)))
  sends a b (exchanged (listened addr send_from ok) ∷ xs) h l p = absurd l
  sends a b (none_came ∷ xs) h l p =
      let one = p.1.0 in
      let gave = none_silent a.edge one.0 p.0.edge one.1.1.0 in
      let rest = sends p.0 b xs (gave.1 ∙ h) l p.1.1 in
      (one.0 ++ rest.0, (both _ _ _ _ _ one.1.0 rest.1.0, sent_append one.0 rest.0 ∙ (ap (λ m. m ++ sent_to rest.0) gave.0 ∙ rest.1.1)))

  pub sends_replies : (a b : Shown S) (xs : List Exchange) → a.edge.hears ≡ true → GoesOnListening xs → Explained called a xs b → SendsReplies called a xs b
  sends_replies a b xs h l p =
      subst (λ (x : List Exchange). SendsReplies called a x b) p.1.0 (sends a b p.0 h (subst GoesOnListening (sym p.1.0) l) p.1.1)
