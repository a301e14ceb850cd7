-- The calls that are made for clients.
use Rattle.std.specs.Prelude.{◌≡◌, ◌⊎◌, ℕ, Bool, true, false, List, [], ◌∷◌, ◌++◌, ◌||◌, if◌then◌else◌, slice_get, slice_set, is_none}
use Rattle.std.specs.List.{All}
use Rattle.std.specs.declared.option.Option.{Option}
use Rattle.std.specs.declared.option.Option.TheVariants.{None, Some}
use Rattle.dc_system.specs.Call.{Call, bind, listen, send_to, receive, accept, close, letter_bytes}
use Rattle.dc_system.specs.declared.answers.Accepted.{Accepted}
use Rattle.dc_system.specs.declared.answers.Accepted.TheVariants as accepted
use Rattle.dc_system.specs.declared.answers.NoSocket.{NoSocket}
use Rattle.dc_system.specs.declared.answers.Bound.TheVariants.{Made, Refused}
use Rattle.dc_system.specs.declared.answers.Received.{Received}
use Rattle.dc_system.specs.declared.answers.Received.TheVariants as received
use Rattle.dc_engine.specs.declared.events.Kind.TheVariants as kind
use Rattle.dc_sock.specs.declared.found.Step.{Step}
use Rattle.dc_sock.specs.declared.found.Step.TheVariants as step
use Rattle.dc_sock.specs.declared.place.Place.TheVariants as place
use Rattle.dc_sock.specs.Place.{token_at}
use Rattle.dc_sock.specs.declared.seat.Conn.{Conn}
use Rattle.dc_sock.specs.declared.seat.Seat.{Seat}
use Rattle.dc_sock.specs.Ready.{Watched, mark_in}
use Rattle.dc_sock.specs.Moment.{again_at}
use Rattle.dc_sock.specs.SeatCalls.{holds_conn, new_seat, free_seat, PutsSeat, LooksAtSeat}

-- The sockets on which clients are heard, that for connections which find no place, and that of the connection at a place.
abbrev pub datagrams_socket : ℕ
datagrams_socket = 0

abbrev pub listener_socket : ℕ
listener_socket = 1

abbrev pub spare_socket : ℕ
spare_socket = 250

abbrev pub seat_socket : ℕ → ℕ
seat_socket index = token_at (place.Seat index)

-- How a socket for datagrams and one for connections were made at an address and port, where a world heard already or not.
pub data Hearing : Type 0 where
  refused : NoSocket → Hearing
  deaf : Hearing
  both : Hearing

abbrev pub listen_calls : (addr : List ℕ) (port : ℕ) → Hearing → List Call
listen_calls addr port (refused cause) = bind 0 addr port (Refused cause) ∷ []
listen_calls addr port deaf = bind 0 addr port Made ∷ listen 1 addr port false ∷ close 0 ∷ []
listen_calls addr port both = bind 0 addr port Made ∷ listen 1 addr port true ∷ []

abbrev pub hears_after : (before : Bool) → Hearing → Bool
hears_after before (refused cause) = before
hears_after before deaf = false
hears_after before both = true

abbrev pub went_well : Hearing → Bool
went_well (refused cause) = false
went_well deaf = false
went_well both = true

abbrev pub Listens : (addr : List ℕ) (port : ℕ) (before : Bool) → List Call → (ok after : Bool) → Type 0
Listens addr port before calls ok after =
    (hearing : Hearing) × ((calls ≡ listen_calls addr port hearing) × ((ok ≡ went_well hearing) × (after ≡ hears_after before hearing)))

-- A datagram to a client: one call, to that address and port, with these bytes.
abbrev pub Replies : (addr : List ℕ) (port : ℕ) (bytes : List ℕ) (hears : Bool) → List Call → Type 0
Replies addr port bytes true calls = (sent : Bool) × (calls ≡ send_to 0 addr port bytes sent ∷ [])
Replies addr port bytes false calls = calls ≡ []

-- What the socket for datagrams gives: a datagram with its sender. An error is none.
abbrev pub request_step : Received → Step
request_step received.Nothing = step.Nothing
request_step (received.Datagram letter) = step.Event (record { kind = kind.Request; addr = letter.addr; port = letter.port; len = letter.len })
request_step received.Failed = step.Nothing

abbrev pub HearsRequests : (hears : Bool) → List Call → Step → (buffer : List ℕ) → Type 0
HearsRequests true calls gave buffer = (answer : Received) × ((calls ≡ receive 0 answer (letter_bytes answer buffer) ∷ []) × (gave ≡ request_step answer))
HearsRequests false calls gave buffer = (calls ≡ []) × (gave ≡ step.Nothing)

-- No place is free.
abbrev pub NoPlace : List Seat → Type 0
NoPlace seats = All (λ (seat : Seat). is_none seat.conn ≡ false) seats

-- A connection that came, from its peer, has a free place and the next number. One that finds no place is closed. One that couldn't be taken
-- is tried again.
abbrev pub AcceptGives : Accepted → (old : List Seat) (next : ℕ) (clock : Option ℕ) → List Call → Step → (new : List Seat) (retry : Option ℕ) → Type 0
AcceptGives accepted.Nothing old next clock calls gave new retry =
    (socket : ℕ) × ((calls ≡ accept 1 socket accepted.Nothing ∷ []) × ((gave ≡ step.Nothing) × ((new ≡ old) × (retry ≡ None))))
AcceptGives accepted.Aborted old next clock calls gave new retry =
    (socket : ℕ) × ((calls ≡ accept 1 socket accepted.Aborted ∷ []) × ((gave ≡ step.Nothing) × ((new ≡ old) × (retry ≡ None))))
AcceptGives accepted.Failed old next clock calls gave new retry =
    (socket : ℕ) × ((calls ≡ accept 1 socket accepted.Failed ∷ []) × ((gave ≡ step.Nothing) × ((new ≡ old) × (retry ≡ again_at clock))))
AcceptGives (accepted.Connection peer) old next clock calls gave new retry =
    ((index : ℕ) × (seat : Seat) × ((slice_get old index ≡ Some seat) × ((is_none seat.conn ≡ true) × ((calls ≡ accept 1 (seat_socket index) (accepted.Connection peer) ∷ [])
    × ((gave ≡ step.Event (record { kind = kind.ConnUp; addr = peer.addr; port = peer.port; len = 0 })) × ((new ≡ slice_set old index (new_seat next)) × (retry ≡ None)))))))
    ⊎ (NoPlace old × ((calls ≡ accept 1 250 (accepted.Connection peer) ∷ close 250 ∷ []) × ((gave ≡ step.Nothing) × ((new ≡ old) × (retry ≡ None)))))

-- The listener was looked at.
abbrev pub Accepts : (hears : Bool) (old : List Seat) (next : ℕ) (clock before : Option ℕ) → List Call → Step → (new : List Seat) (retry : Option ℕ) → Type 0
Accepts true old next clock before calls gave new retry = (answer : Accepted) × AcceptGives answer old next clock calls gave new retry
Accepts false old next clock before calls gave new retry = (calls ≡ []) × ((gave ≡ step.Nothing) × ((new ≡ old) × (retry ≡ before)))

-- The connection of this number stands at a place; none has it.
abbrev pub IsAt : (number index : ℕ) → Seat → List Seat → Type 0
IsAt number index seat seats = (slice_get seats index ≡ Some seat) × (holds_conn number seat.conn ≡ true)

abbrev pub NoneHas : (number : ℕ) → List Seat → Type 0
NoneHas number seats = All (λ (seat : Seat). holds_conn number seat.conn ≡ false) seats

-- A connection that has failed, or that sends no more, is to be looked at, so that its end is told.
abbrev pub is_over : Option Conn → Bool
is_over None = false
is_over (Some conn) = conn.failed || conn.ended

abbrev pub marked_over : Seat → (socket : ℕ) → Watched → Watched
marked_over seat socket w = if is_over seat.conn then mark_in w socket else w

-- Bytes are given to the connection of this number, if there is one. One is closed.
abbrev pub WritesSeat : (number : ℕ) (bytes : List ℕ) (old : List Seat) (before : Watched) → List Call → (new : List Seat) (watch : Watched) → Type 0
WritesSeat number bytes old before calls new watch =
    (NoneHas number old × ((calls ≡ []) × ((new ≡ old) × (watch ≡ before))))
    ⊎ ((index : ℕ) × (seat : Seat) × (after : Seat) × (IsAt number index seat old × (PutsSeat seat.conn (seat_socket index) seat bytes calls after
    × ((new ≡ slice_set old index after) × (watch ≡ marked_over after (seat_socket index) before)))))

abbrev pub ClosesSeat : (number : ℕ) (old : List Seat) → List Call → (new : List Seat) → Type 0
ClosesSeat number old calls new =
    (NoneHas number old × ((calls ≡ []) × (new ≡ old)))
    ⊎ ((index : ℕ) × (seat : Seat) × (IsAt number index seat old × ((calls ≡ close (seat_socket index) ∷ []) × (new ≡ slice_set old index free_seat))))

-- What became of a connection that gave this: one that gave its last is closed.
abbrev pub GoesSeat : Step → (index : ℕ) → Seat → (old : List Seat) → List Call → (new : List Seat) → Type 0
GoesSeat step.Nothing index after old calls new = (calls ≡ []) × (new ≡ slice_set old index after)
GoesSeat (step.Event found) index after old calls new = (calls ≡ []) × (new ≡ slice_set old index after)
GoesSeat (step.Last found) index after old calls new = (calls ≡ close (seat_socket index) ∷ []) × (new ≡ slice_set old index free_seat)

-- The connection at a place was looked at.
pub record LooksSeat (index : ℕ) (seat : Seat) (old : List Seat) (calls : List Call) (id : ℕ) (gave : Step) (buffer : List ℕ) (new : List Seat) : Type 0 where
  pub there : slice_get old index ≡ Some seat
  pub after : Seat
  pub heard : List Call
  pub closed : List Call
  pub whole : calls ≡ heard ++ closed
  pub looks : LooksAtSeat (seat_socket index) seat seat.conn heard id gave buffer after
  pub goes : GoesSeat gave index after old closed new

abbrev pub HearsSeat : (index : ℕ) (old : List Seat) → List Call → (id : ℕ) → Step → (buffer : List ℕ) → (new : List Seat) → Type 0
HearsSeat index old calls id gave buffer new =
    ((calls ≡ []) × ((gave ≡ step.Nothing) × ((new ≡ old) × (slice_get old index ≡ None)))) ⊎ ((seat : Seat) × LooksSeat index seat old calls id gave buffer new)
