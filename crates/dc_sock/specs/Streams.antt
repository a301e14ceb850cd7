-- What the clients' connections got over a whole run.
use Rattle.std.specs.Prelude.{◌≡◌, ◌⊎◌, ◌≤◌, ◌<◌, ◌-◌, ◌^◌, ◌==◌, ℕ, Bool, true, false, if◌then◌else◌, List, [], ◌∷◌, ◌++◌, length, take, slice_get}
use Rattle.std.specs.List.{AllByRecursion}
use Rattle.std.specs.declared.option.Option.{Option}
use Rattle.std.specs.declared.option.Option.TheVariants.{None, Some}
use Rattle.dc_model.specs.Limits.{most_seats}
use Rattle.dc_model.specs.Event.{Kind, tick, request, datagram, link_up, link_bytes, link_down, bind_refused, conn_up, conn_bytes, conn_down, Action, reply, conn_reply, conn_close, udp, tcp, link_write, link_close, line}
use Rattle.dc_event.specs.History.{Answer, Exchange, listened, asked, gathered, did}
use Rattle.dc_event.specs.History as history
use Rattle.dc_system.specs.Call.{Call}
use Rattle.dc_system.specs.Call as call
use Rattle.dc_system.specs.declared.answers.Accepted.TheVariants as accepted
use Rattle.dc_system.specs.declared.answers.Peer.{Peer}
use Rattle.dc_sock.specs.ClientCalls.{seat_socket}
use Rattle.dc_sock.specs.Passed.{Passed, exchanged, none_came, exchanges_of}
use Rattle.dc_sock.specs.declared.seat.Conn.{Conn}
use Rattle.dc_sock.specs.declared.seat.Seat.{Seat}

-- What a stream took of the bytes that it was given.
abbrev pub taken_of : List ℕ → Option ℕ → List ℕ
taken_of bytes None = []
taken_of bytes (Some count) = take count bytes

-- What the stream of this socket took in one call, and whether that call closed it.
abbrev pub took : (socket : ℕ) → Call → List ℕ
took socket (call.bind s addr port answer) = []
took socket (call.connect s addr port answer) = []
took socket (call.send s bytes answer) = []
took socket (call.send_to s addr port bytes answer) = []
took socket (call.receive s answer bytes) = []
took socket (call.listen s addr port answer) = []
took socket (call.accept l s answer) = []
took socket (call.begin s addr port server to answer) = []
took socket (call.stands s answer) = []
took socket (call.read s answer bytes) = []
took socket (call.write s bytes answer) = if s == socket then taken_of bytes answer else []
took socket (call.close s) = []
took socket (call.wait pause answer) = []
took socket (call.ready answer) = []
took socket (call.now answer) = []
took socket (call.print bytes answer) = []

abbrev pub closes : (socket : ℕ) → Call → Bool
closes socket (call.bind s addr port answer) = false
closes socket (call.connect s addr port answer) = false
closes socket (call.send s bytes answer) = false
closes socket (call.send_to s addr port bytes answer) = false
closes socket (call.receive s answer bytes) = false
closes socket (call.listen s addr port answer) = false
closes socket (call.accept l s answer) = false
closes socket (call.begin s addr port server to answer) = false
closes socket (call.stands s answer) = false
closes socket (call.read s answer bytes) = false
closes socket (call.write s bytes answer) = false
closes socket (call.close s) = s == socket
closes socket (call.wait pause answer) = false
closes socket (call.ready answer) = false
closes socket (call.now answer) = false
closes socket (call.print bytes answer) = false

-- What it took until it was closed. It wasn't closed.
abbrev pub takes : (socket : ℕ) → List Call → List ℕ
takes socket [] = []
takes socket (x ∷ xs) = if closes socket x then [] else took socket x ++ takes socket xs

abbrev pub StaysOpen : (socket : ℕ) → List Call → Type 0
StaysOpen socket calls = AllByRecursion (λ (x : Call). closes socket x ≡ false) calls

-- The bytes of the replies to the connection of this number, in order.
abbrev pub reply_to : (number : ℕ) → Action → List ℕ
reply_to number (reply addr port bytes) = []
reply_to number (conn_reply conn bytes) = if conn == number then bytes else []
reply_to number (conn_close conn) = []
reply_to number (udp link port server query) = []
reply_to number (tcp link port server) = []
reply_to number (link_write link bytes) = []
reply_to number (link_close link) = []
reply_to number (line text) = []

abbrev pub replied_in : (number : ℕ) → Exchange → List ℕ
replied_in number (listened addr send_from ok) = []
replied_in number (asked wake answer) = []
replied_in number (gathered e) = []
replied_in number (did action) = reply_to number action

abbrev pub replies_to : (number : ℕ) → List Exchange → List ℕ
replies_to number [] = []
replies_to number (x ∷ xs) = replied_in number x ++ replies_to number xs

-- A write to the stream of this socket went wrong.
abbrev pub WriteFailed : (socket : ℕ) → List Call → Type 0
WriteFailed socket calls = (before : List Call) × (bytes : List ℕ) × (after : List Call) × (calls ≡ before ++ call.write socket bytes None ∷ after)

-- What may have failed a connection that was given these bytes: such a write, or more bytes than may wait.
abbrev pub MayFail : (socket : ℕ) → List Call → (given : List ℕ) → Type 0
MayFail socket calls given = WriteFailed socket calls ⊎ (65537 < length given)

-- A connection that came at this place, under this number, before these exchanges and calls: what its stream took until it was closed is a front
-- of its replies. While it isn't closed it stands at its place. What its stream took, with what waits for it, is then exactly its replies, in
-- order, unless it has failed.
abbrev pub IsAnswered : (index number : ℕ) → List Exchange → List Call → List Seat → Type 0
IsAnswered index number xs calls seats =
    ((rest : List ℕ) × (takes (seat_socket index) calls ++ rest ≡ replies_to number xs))
    × (StaysOpen (seat_socket index) calls → (seat : Seat) × (conn : Conn) × ((slice_get seats index ≡ Some seat) × ((seat.conn ≡ Some conn) × ((conn.number ≡ number)
    × ((conn.failed ≡ false → takes (seat_socket index) calls ++ seat.backlog ≡ replies_to number xs)
    × (conn.failed ≡ true → MayFail (seat_socket index) calls (replies_to number xs)))))))

-- So is each connection that comes, as long as there is a next number. The last call that was made for its event has its place.
abbrev pub UpIsAnswered : Kind → (id : ℕ) → (mine : List Call) → List Exchange → (others : List Call) → List Seat → Type 0
UpIsAnswered conn_up id mine xs others seats =
    id < 2 ^ 64 - 1 → (before : List Call) × (index : ℕ) × (peer : Peer)
    × ((mine ≡ before ++ call.accept 1 (seat_socket index) (accepted.Connection peer) ∷ []) × IsAnswered index id xs others seats)
UpIsAnswered tick id mine xs others seats = Unit {0}
UpIsAnswered request id mine xs others seats = Unit {0}
UpIsAnswered datagram id mine xs others seats = Unit {0}
UpIsAnswered link_up id mine xs others seats = Unit {0}
UpIsAnswered link_bytes id mine xs others seats = Unit {0}
UpIsAnswered link_down id mine xs others seats = Unit {0}
UpIsAnswered bind_refused id mine xs others seats = Unit {0}
UpIsAnswered conn_bytes id mine xs others seats = Unit {0}
UpIsAnswered conn_down id mine xs others seats = Unit {0}

abbrev pub SaidIsAnswered : Answer → (mine : List Call) → List Exchange → (others : List Call) → List Seat → Type 0
SaidIsAnswered (history.gave e) mine xs others seats = UpIsAnswered e.kind e.id mine xs others seats
SaidIsAnswered history.ended mine xs others seats = Unit {0}
SaidIsAnswered history.failed mine xs others seats = Unit {0}
SaidIsAnswered (history.bad number) mine xs others seats = Unit {0}

abbrev pub IsAnsweredBehind : Exchange → (mine : List Call) → List Exchange → (others : List Call) → List Seat → Type 0
IsAnsweredBehind (listened addr send_from ok) mine xs others seats = Unit {0}
IsAnsweredBehind (asked wake answer) mine xs others seats = SaidIsAnswered answer mine xs others seats
IsAnsweredBehind (gathered e) mine xs others seats = UpIsAnswered e.kind e.id mine xs others seats
IsAnsweredBehind (did action) mine xs others seats = Unit {0}

-- Where one event more was asked for and none had come, no connection came.
abbrev pub PassedIsAnswered : Passed → (mine : List Call) → List Exchange → (others : List Call) → List Seat → Type 0
PassedIsAnswered (exchanged x) mine xs others seats = IsAnsweredBehind x mine xs others seats
PassedIsAnswered none_came mine xs others seats = Unit {0}

-- The calls of several parts of a run, one after the other.
abbrev pub joined : List (List Call) → List Call
joined [] = []
joined (calls ∷ parts) = calls ++ joined parts

-- A whole run: the calls of each part, in order, and the places at its end.
abbrev pub AllAnswered : List Passed → (parts : List (List Call)) → List Seat → Type 0
AllAnswered [] parts seats = parts ≡ []
AllAnswered (x ∷ xs) [] seats = ⊥
AllAnswered (x ∷ xs) (mine ∷ others) seats = PassedIsAnswered x mine (exchanges_of xs) (joined others) seats × AllAnswered xs others seats

-- The numbers at the places: there are 24 places, and as long as there is a next number, the number of each connection is below it.
pub record IsNumbered (seats : List Seat) (next : ℕ) : Type 0 where
  pub places : length seats ≡ most_seats
  pub limit : next ≤ 2 ^ 64 - 1
  pub below : next < 2 ^ 64 - 1 → (index : ℕ) (seat : Seat) (conn : Conn) → slice_get seats index ≡ Some seat → seat.conn ≡ Some conn → conn.number < next
