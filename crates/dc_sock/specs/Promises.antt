-- What holds over whole runs, whatever the system answers.
use Rattle.std.specs.Prelude.{◌≡◌, ℕ, List, [], ◌∷◌, ◌++◌}
use Rattle.dc_model.specs.Event.{Action, reply, conn_reply, conn_close, udp, tcp, link_write, link_close, line}
use Rattle.dc_system.specs.Call.{Call}
use Rattle.dc_system.specs.Call as call
use Rattle.dc_event.specs.History.{Exchange, listened, asked, gathered, did}
use Rattle.dc_sock.specs.World.{Shown}

-- A datagram: address, port, bytes.
abbrev pub Sent : Type 0
Sent = List ℕ × (ℕ × List ℕ)

-- The datagrams that calls sent to an address and port of their own choice.
abbrev pub sent_by : Call → List Sent
sent_by (call.bind s addr port answer) = []
sent_by (call.connect s addr port answer) = []
sent_by (call.send s bytes answer) = []
sent_by (call.send_to s addr port bytes answer) = (addr, (port, bytes)) ∷ []
sent_by (call.receive s answer bytes) = []
sent_by (call.listen s addr port answer) = []
sent_by (call.accept l s answer) = []
sent_by (call.begin s addr port server to answer) = []
sent_by (call.stands s answer) = []
sent_by (call.read s answer bytes) = []
sent_by (call.write s bytes answer) = []
sent_by (call.close s) = []
sent_by (call.wait pause answer) = []
sent_by (call.ready answer) = []
sent_by (call.now answer) = []
sent_by (call.print bytes answer) = []

abbrev pub sent_to : List Call → List Sent
sent_to [] = []
sent_to (x ∷ xs) = sent_by x ++ sent_to xs

-- The replies among actions, and among exchanges.
abbrev pub reply_of : Action → List Sent
reply_of (reply addr port bytes) = (addr, (port, bytes)) ∷ []
reply_of (conn_reply conn bytes) = []
reply_of (conn_close conn) = []
reply_of (udp link port server query) = []
reply_of (tcp link port server) = []
reply_of (link_write link bytes) = []
reply_of (link_close link) = []
reply_of (line text) = []

abbrev pub replies_in : List Exchange → List Sent
replies_in [] = []
replies_in (did action ∷ xs) = reply_of action ++ replies_in xs
replies_in (asked wake answer ∷ xs) = replies_in xs
replies_in (gathered e ∷ xs) = replies_in xs
replies_in (listened addr send_from ok ∷ xs) = replies_in xs

-- Listening isn't begun again.
abbrev pub GoesOnListening : List Exchange → Type 0
GoesOnListening [] = Unit {0}
GoesOnListening (did action ∷ xs) = GoesOnListening xs
GoesOnListening (asked wake answer ∷ xs) = GoesOnListening xs
GoesOnListening (gathered e ∷ xs) = GoesOnListening xs
GoesOnListening (listened addr send_from ok ∷ xs) = ⊥

-- What was sent to clients is exactly the replies, each once, in order, whole, to where they belong.
abbrev pub SendsReplies : {S : Type 0} → (S → List Call → S → Type 0) → Shown S → List Exchange → Shown S → Type 0
SendsReplies {S} called a xs b = (calls : List Call) × (called a.system calls b.system × (sent_to calls ≡ replies_in xs))
