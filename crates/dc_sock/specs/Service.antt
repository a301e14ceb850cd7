-- What a whole run looks like to who runs the service, in the calls of its system: what came, what was sent, and what was printed.
use Rattle.std.specs.Prelude.{◌≡◌, ◌⊎◌, ◌≤◌, ℕ, Bool, true, false, if◌then◌else◌, List, [], ◌∷◌, ◌++◌}
use Rattle.std.specs.List.{AllByRecursion}
use Rattle.std.specs.declared.option.Option.{Option}
use Rattle.dc_model.specs.Event.{Event as ModelEvent, Kind, tick, request, datagram, link_up, link_bytes, link_down, bind_refused, conn_up, conn_bytes, conn_down, Action, reply, conn_reply, conn_close, udp, tcp, link_write, link_close, line}
use Rattle.dc_event.specs.History.{Answer, Exchange, listened, asked, gathered, did}
use Rattle.dc_event.specs.History as history
use Rattle.dc_system.specs.Call.{Call}
use Rattle.dc_system.specs.Call as call
use Rattle.dc_system.specs.declared.answers.Bound.{Bound}
use Rattle.dc_system.specs.declared.answers.Letter.{Letter}
use Rattle.dc_system.specs.declared.answers.Accepted.{Accepted}
use Rattle.dc_system.specs.declared.answers.Accepted.TheVariants as accepted
use Rattle.dc_system.specs.declared.answers.Part.TheVariants as part
use Rattle.dc_system.specs.declared.answers.Peer.{Peer}
use Rattle.dc_system.specs.declared.answers.Received.{Received}
use Rattle.dc_system.specs.declared.answers.Received.TheVariants as received
use Rattle.dc_sock.specs.declared.link.Opening.{Opening}
use Rattle.dc_sock.specs.ClientCalls.{seat_socket, spare_socket, Hearing, listen_calls, hears_after, went_well}
use Rattle.dc_sock.specs.LinkCalls.{udp_calls, tcp_calls}
use Rattle.dc_sock.specs.Edge.{AreAtHand}
use Rattle.dc_sock.specs.Passed.{Passed, exchanged, none_came, exchanges_of}
use Rattle.dc_sock.specs.Streams.{joined, IsNumbered, AllAnswered}
use Rattle.dc_sock.specs.World.{Shown}

-- No datagram came.
abbrev pub NoLetter : Received → Type 0
NoLetter received.Nothing = Unit {0}
NoLetter (received.Datagram letter) = ⊥
NoLetter received.Failed = Unit {0}

-- No connection was taken, but one that is turned away.
abbrev pub NotTaken : (socket : ℕ) → Accepted → Type 0
NotTaken socket accepted.Nothing = Unit {0}
NotTaken socket (accepted.Connection peer) = socket ≡ spare_socket
NotTaken socket accepted.Aborted = Unit {0}
NotTaken socket accepted.Failed = Unit {0}

-- No datagram is sent or taken, no connection is taken but to be turned away, no socket is made, and none is connected.
abbrev pub IsPlain : Call → Type 0
IsPlain (call.bind s addr port answer) = ⊥
IsPlain (call.connect s addr port answer) = ⊥
IsPlain (call.send s bytes answer) = ⊥
IsPlain (call.send_to s addr port bytes answer) = ⊥
IsPlain (call.receive s answer bytes) = NoLetter answer
IsPlain (call.listen s addr port answer) = ⊥
IsPlain (call.accept l s answer) = NotTaken s answer
IsPlain (call.begin s addr port server to answer) = ⊥
IsPlain (call.stands s answer) = Unit {0}
IsPlain (call.read s answer bytes) = Unit {0}
IsPlain (call.write s bytes answer) = Unit {0}
IsPlain (call.close s) = Unit {0}
IsPlain (call.wait pause answer) = Unit {0}
IsPlain (call.ready answer) = Unit {0}
IsPlain (call.now answer) = Unit {0}
IsPlain (call.print bytes answer) = Unit {0}

abbrev pub ArePlain : List Call → Type 0
ArePlain calls = AllByRecursion IsPlain calls

-- These calls gave an event of this kind: a request is the bytes and the sender of one datagram on the clients' socket, a datagram of a server
-- those of one on a link's socket, and no other event takes one. A connection is one that was accepted, with its peer, and no other event takes
-- one; bytes of a stream are those of one part that was read.
abbrev pub ComesBy : Kind → ModelEvent → List Call → Type 0
ComesBy request e calls = (letter : Letter) × ((calls ≡ call.receive 0 (received.Datagram letter) e.bytes ∷ []) × ((e.addr ≡ letter.addr) × (e.port ≡ letter.port)))
ComesBy datagram e calls =
    (socket : ℕ) × (letter : Letter) × ((26 ≤ socket) × ((calls ≡ call.receive socket (received.Datagram letter) e.bytes ∷ []) × ((e.addr ≡ letter.addr) × (e.port ≡ letter.port))))
ComesBy tick e calls = ArePlain calls
ComesBy link_up e calls = ArePlain calls
ComesBy link_bytes e calls = (socket : ℕ) × (len : ℕ) × ((26 ≤ socket) × (calls ≡ call.read socket (part.Bytes len) e.bytes ∷ []))
ComesBy link_down e calls = ArePlain calls
ComesBy bind_refused e calls = ArePlain calls
ComesBy conn_up e calls =
    (index : ℕ) × (peer : Peer) × ((calls ≡ call.accept 1 (seat_socket index) (accepted.Connection peer) ∷ []) × ((e.addr ≡ peer.addr) × (e.port ≡ peer.port)))
ComesBy conn_bytes e calls =
    (flushed : List Call) × (index : ℕ) × (len : ℕ) × (ArePlain flushed × (calls ≡ flushed ++ call.read (seat_socket index) (part.Bytes len) e.bytes ∷ []))
ComesBy conn_down e calls = ArePlain calls

abbrev pub Came : ModelEvent → List Call → Type 0
Came e calls = (before : List Call) × (last : List Call) × ((calls ≡ before ++ last) × (ArePlain before × ComesBy e.kind e last))

-- What was said when an event was asked for.
abbrev pub Said : Answer → List Call → Type 0
Said (history.gave e) calls = Came e calls
Said history.ended calls = ⊥
Said history.failed calls = ArePlain calls
Said (history.bad number) calls = ⊥

-- What was done for an action, where clients are heard or not, and links are opened from this address. A reply is one datagram with exactly its
-- bytes to its client. A query is one datagram with exactly its bytes, from that address and its local port, to port 53 of its server alone,
-- unless that is refused or all links stand. Bytes for a client's connection are given to its stream whole in one call, or wait or are dropped
-- with it. Anything else sends no datagram.
abbrev pub Done : Action → (hears : Bool) (from : List ℕ) → List Call → Type 0
Done (reply addr port bytes) true from calls = (sent : Bool) × (calls ≡ call.send_to 0 addr port bytes sent ∷ [])
Done (reply addr port bytes) false from calls = calls ≡ []
Done (udp link port server query) hears from calls =
    (calls ≡ []) ⊎ ((socket : ℕ) × (opening : Opening) × ((26 ≤ socket) × (calls ≡ udp_calls socket from port server query opening)))
Done (tcp link port server) hears from calls =
    (calls ≡ []) ⊎ ((socket : ℕ) × (answer : Bound) × ((26 ≤ socket) × (calls ≡ tcp_calls socket from port server answer)))
Done (conn_reply conn bytes) hears from calls = (calls ≡ []) ⊎ ((index : ℕ) × (took : Option ℕ) × (calls ≡ call.write (seat_socket index) bytes took ∷ []))
Done (conn_close conn) hears from calls = (calls ≡ []) ⊎ ((index : ℕ) × (calls ≡ call.close (seat_socket index) ∷ []))
Done (link_write link bytes) hears from calls = ArePlain calls
Done (link_close link) hears from calls = ArePlain calls
Done (line text) hears from calls = ArePlain calls

-- A whole run, exchange by exchange, in order, each with the calls that were made for it. An event that had come already was handed out without
-- a wait. Between exchanges one event more may have been asked for, where none had come: nothing is waited for, sent, taken or printed then.
abbrev pub Serves : (port : ℕ) (hears : Bool) (from : List ℕ) → List Passed → (parts : List (List Call)) → Type 0
Serves port hears from [] parts = parts ≡ []
Serves port hears from (x ∷ xs) [] = ⊥
Serves port hears from (exchanged (listened addr send_from ok) ∷ xs) (mine ∷ others) =
    (hearing : Hearing) × ((mine ≡ listen_calls addr port hearing) × ((ok ≡ went_well hearing)
    × Serves port (hears_after hears hearing) (if ok then send_from else from) xs others))
Serves port hears from (exchanged (asked wake answer) ∷ xs) (mine ∷ others) = Said answer mine × Serves port hears from xs others
Serves port hears from (exchanged (gathered e) ∷ xs) (mine ∷ others) = (Came e mine × AreAtHand mine) × Serves port hears from xs others
Serves port hears from (exchanged (did action) ∷ xs) (mine ∷ others) = Done action hears from mine × Serves port hears from xs others
Serves port hears from (none_came ∷ xs) (mine ∷ others) = (ArePlain mine × AreAtHand mine) × Serves port hears from xs others

-- What was printed, and whether each print went well.
abbrev pub printed_by : Call → List ℕ
printed_by (call.bind s addr port answer) = []
printed_by (call.connect s addr port answer) = []
printed_by (call.send s bytes answer) = []
printed_by (call.send_to s addr port bytes answer) = []
printed_by (call.receive s answer bytes) = []
printed_by (call.listen s addr port answer) = []
printed_by (call.accept l s answer) = []
printed_by (call.begin s addr port server to answer) = []
printed_by (call.stands s answer) = []
printed_by (call.read s answer bytes) = []
printed_by (call.write s bytes answer) = []
printed_by (call.close s) = []
printed_by (call.wait pause answer) = []
printed_by (call.ready answer) = []
printed_by (call.now answer) = []
printed_by (call.print bytes answer) = bytes

abbrev pub printed : List Call → List ℕ
printed [] = []
printed (x ∷ xs) = printed_by x ++ printed xs

abbrev pub WentWell : Bool → Type 0
WentWell true = Unit {0}
WentWell false = ⊥

abbrev pub IsPrinted : Call → Type 0
IsPrinted (call.bind s addr port answer) = Unit {0}
IsPrinted (call.connect s addr port answer) = Unit {0}
IsPrinted (call.send s bytes answer) = Unit {0}
IsPrinted (call.send_to s addr port bytes answer) = Unit {0}
IsPrinted (call.receive s answer bytes) = Unit {0}
IsPrinted (call.listen s addr port answer) = Unit {0}
IsPrinted (call.accept l s answer) = Unit {0}
IsPrinted (call.begin s addr port server to answer) = Unit {0}
IsPrinted (call.stands s answer) = Unit {0}
IsPrinted (call.read s answer bytes) = Unit {0}
IsPrinted (call.write s bytes answer) = Unit {0}
IsPrinted (call.close s) = Unit {0}
IsPrinted (call.wait pause answer) = Unit {0}
IsPrinted (call.ready answer) = Unit {0}
IsPrinted (call.now answer) = Unit {0}
IsPrinted (call.print bytes answer) = WentWell answer

-- The lines among exchanges, each with its end.
abbrev pub line_by : Action → List ℕ
line_by (reply addr port bytes) = []
line_by (conn_reply conn bytes) = []
line_by (conn_close conn) = []
line_by (udp link port server query) = []
line_by (tcp link port server) = []
line_by (link_write link bytes) = []
line_by (link_close link) = []
line_by (line text) = text ++ 10 ∷ []

abbrev pub lines_in : List Exchange → List ℕ
lines_in [] = []
lines_in (listened addr send_from ok ∷ xs) = lines_in xs
lines_in (asked wake answer ∷ xs) = lines_in xs
lines_in (gathered e ∷ xs) = lines_in xs
lines_in (did action ∷ xs) = line_by action ++ lines_in xs

-- What was printed, with what is still gathered, is what was gathered before and then the lines, whole and in order, where each print went well.
abbrev pub PrintsLines : (before after : List ℕ) → List Exchange → List Call → Type 0
PrintsLines before after xs calls = AllByRecursion IsPrinted calls → printed calls ++ after ≡ before ++ lines_in xs

-- All of it, of the calls that were made in a run: what came and was done, what was printed, and what the clients' connections got.
abbrev pub RunsService : {S : Type 0} → (S → List Call → S → Type 0) → Shown S → List Exchange → Shown S → Type 0
RunsService {S} called a xs b =
    (passed : List Passed) × (parts : List (List Call)) × ((exchanges_of passed ≡ xs) × (called a.system (joined parts) b.system
    × (Serves a.port a.edge.hears a.edge.from passed parts × (PrintsLines a.edge.log.text b.edge.log.text xs (joined parts)
    × (IsNumbered a.edge.seats a.edge.next_conn → AllAnswered passed parts b.edge.seats)))))
