-- The state of the sockets, and which calls explain what was heard on them.
use Rattle.std.specs.Prelude.{◌≡◌, ◌⊎◌, ℕ, Bool, true, false, List, [], ◌∷◌, ◌++◌, slice_get, slice_set, drop}
use Rattle.std.specs.List.{AllByRecursion}
use Rattle.std.specs.declared.option.Option.{Option}
use Rattle.std.specs.declared.option.Option.TheVariants.{None, Some}
use Rattle.slab.specs.Slab.{Slab, get}
use Rattle.dc_model.specs.Event.{Event as ModelEvent}
use Rattle.dc_system.specs.Call.{Call}
use Rattle.dc_system.specs.Call as call
use Rattle.dc_system.specs.declared.answers.Accepted.{Accepted}
use Rattle.dc_system.specs.declared.answers.Accepted.TheVariants as accepted
use Rattle.dc_system.specs.declared.answers.Part.{Part}
use Rattle.dc_system.specs.declared.answers.Part.TheVariants as part
use Rattle.dc_system.specs.declared.answers.Received.{Received}
use Rattle.dc_system.specs.declared.answers.Received.TheVariants as received
use Rattle.dc_system.specs.declared.answers.Standing.{Standing}
use Rattle.dc_system.specs.declared.answers.Standing.TheVariants as standing
use Rattle.dc_engine.specs.declared.events.Kind.TheVariants as kind
use Rattle.dc_sock.specs.declared.found.Found.{Found}
use Rattle.dc_sock.specs.declared.found.Step.{Step}
use Rattle.dc_sock.specs.declared.found.Step.TheVariants as step
use Rattle.dc_sock.specs.declared.link.Link.{Link}
use Rattle.dc_sock.specs.declared.place.Place.{Place}
use Rattle.dc_sock.specs.declared.place.Place.TheVariants as place
use Rattle.dc_sock.specs.declared.clients.Clients.{Clients}
use Rattle.dc_sock.specs.declared.sockets.Sockets.{Sockets}
use Rattle.dc_sock.specs.declared.sockets.Turn.{Turn}
use Rattle.dc_sock.specs.declared.sockets.Turn.TheVariants as turn
use Rattle.dc_sock.specs.Found.{plain_found, event_found}
use Rattle.dc_sock.specs.Log.{Gathered, after_print}
use Rattle.dc_sock.specs.Moment.{is_reached, again_at, until, IsSoon, IsPatient, IsWithin}
use Rattle.dc_sock.specs.Numbers.{StepNumbers}
use Rattle.dc_sock.specs.Place.{place_at}
use Rattle.dc_sock.specs.Ready.{Watched, next_token, without_token}
use Rattle.dc_sock.specs.Round.{Round, round_of, again_if, look_marks, GivesInTurn, InTurn, is_busy, IsAtOnce, IsTicked}
use Rattle.dc_sock.specs.Links.{LooksAt}
use Rattle.dc_sock.specs.ClientCalls.{HearsRequests, NoPlace, Accepts, HearsSeat, seat_socket}
use Rattle.dc_sock.specs.Asked.{is_settled}
use Rattle.dc_sock.specs.declared.seat.Conn.{Conn}
use Rattle.dc_sock.specs.declared.seat.Seat.{Seat}

-- Whether clients are heard, when a connection that couldn't be taken is tried again, the address that links are opened from, the links by
-- their places, the number of the next connection, the connections by their places, the log, the moment that was read since the last wait, and
-- what is looked at in turn.
pub record Edge : Type 0 where
  pub hears : Bool
  pub retry : Option ℕ
  pub from : List ℕ
  pub links : Slab Link
  pub next_conn : ℕ
  pub seats : List Seat
  pub log : Gathered
  pub clock : Option ℕ
  pub round : Round

abbrev pub edge_of : Option ℕ → Sockets → Edge
edge_of clock s =
    record { hears = s.clients.hears; retry = s.clients.retry; from = s.links.from; links = s.links.links; next_conn = s.clients.next; seats = s.clients.seats.items; log = s.log; clock = clock; round = round_of s.watch }

-- No try to take a connection is overdue at this moment.
abbrev pub IsTried : ℕ → Clients → Type 0
IsTried now clients = IsSoon clients.hears clients.retry (Some now)

-- A try is overdue at the moment that was read.
abbrev pub IsLate : Edge → Type 0
IsLate a = IsSoon a.hears a.retry a.clock → ⊥

-- There is nothing to look at: clients aren't heard, or no connection or link is at that place.
abbrev pub HasNoConn : Option Seat → Type 0
HasNoConn None = Unit {0}
HasNoConn (Some seat) = seat.conn ≡ None

abbrev pub IsVacant : (hears : Bool) → List Seat → Slab Link → Place → Type 0
IsVacant hears seats links place.Datagrams = hears ≡ false
IsVacant hears seats links place.Listener = hears ≡ false
IsVacant hears seats links (place.Seat index) = HasNoConn (slice_get seats index)
IsVacant hears seats links (place.Link key) = get links key ≡ None

-- Such sources take their turns without a call.
abbrev pub PassesOver : (hears : Bool) → List Seat → Slab Link → (tokens : List ℕ) → Watched → Watched → Type 0
PassesOver hears seats links [] w after = after ≡ w
PassesOver hears seats links (token ∷ tokens) w after =
    (next_token w ≡ Some token) × (IsVacant hears seats links (place_at token) × PassesOver hears seats links tokens (without_token w) after)

abbrev pub Passes : Edge → Edge → Type 0
Passes a b =
    (tokens : List ℕ) × (PassesOver a.hears a.seats a.links tokens a.round.watch b.round.watch
    × (b ≡ record a { round = record a.round { watch = b.round.watch } }))

-- A call after which nothing was heard: nothing is sent or opened, nothing that came is taken.
abbrev pub QuietReceive : (socket : ℕ) → Received → Type 0
QuietReceive socket received.Nothing = Unit {0}
QuietReceive socket (received.Datagram letter) = ⊥
QuietReceive socket received.Failed = socket ≡ 0

abbrev pub QuietAccept : Edge → (socket : ℕ) → Accepted → Edge → Type 0
QuietAccept a socket accepted.Nothing b = b ≡ record a { retry = None; round = b.round }
QuietAccept a socket accepted.Aborted b = b ≡ record a { retry = None; round = b.round }
QuietAccept a socket accepted.Failed b = b ≡ record a { retry = again_at a.clock; round = b.round }
QuietAccept a socket (accepted.Connection peer) b = (socket ≡ 250) × (NoPlace a.seats × (b ≡ record a { retry = None; round = b.round }))

abbrev pub QuietStanding : Standing → Type 0
QuietStanding standing.NotYet = Unit {0}
QuietStanding standing.Stands = ⊥
QuietStanding standing.Failed = ⊥

-- The end of a client's stream isn't told while a whole request isn't answered or bytes wait. It is kept.
abbrev pub QuietRead : Edge → (socket : ℕ) → Part → Edge → Type 0
QuietRead a socket part.Nothing b = b ≡ record a { round = b.round }
QuietRead a socket (part.Bytes len) b = ⊥
QuietRead a socket part.End b =
    (index : ℕ) × (seat : Seat) × (conn : Conn) × ((slice_get a.seats index ≡ Some seat) × ((seat.conn ≡ Some conn) × ((socket ≡ seat_socket index)
    × ((is_settled conn.asked seat.backlog ≡ false) × (b ≡ record a { seats = slice_set a.seats index (record { conn = Some (record conn { ended = true }); backlog = seat.backlog }); round = b.round })))))
QuietRead a socket part.Failed b = ⊥

-- What waits for a connection is written to it: all of it, and no longer waits as far as the stream took it.
abbrev pub QuietWrite : Edge → (socket : ℕ) → List ℕ → Option ℕ → Edge → Type 0
QuietWrite a socket bytes answer b =
    (index : ℕ) × (seat : Seat) × (taken : ℕ) × ((slice_get a.seats index ≡ Some seat) × ((socket ≡ seat_socket index) × ((bytes ≡ seat.backlog) × ((answer ≡ Some taken)
    × (b ≡ record a { seats = slice_set a.seats index (record { conn = seat.conn; backlog = drop taken bytes }); round = b.round })))))

-- A wait: no try is overdue, and it is no longer than until the wake, nor than until the next try, and no shorter unless something is left to do.
-- It doesn't last while a source is ready, a Tick that is due came before it, and all that was gathered was printed.
abbrev pub WaitsInTime : (wake : Option ℕ) → Edge → (pause : Option ℕ) → Type 0
WaitsInTime wake a pause =
    IsSoon a.hears a.retry a.clock
    × (IsWithin (until a.hears a.retry wake) a.clock pause
    × (IsPatient (is_busy wake a.clock a.round.watch.ready) (until a.hears a.retry wake) a.clock pause
    × (IsAtOnce a.round.watch.ready pause × (IsTicked wake a.clock a.round.watch.ticked × (a.log.text ≡ [])))))

abbrev pub QuietCall : (wake : Option ℕ) → Edge → Call → Edge → Type 0
QuietCall wake a (call.bind s addr port answer) b = ⊥
QuietCall wake a (call.connect s addr port answer) b = ⊥
QuietCall wake a (call.send s bytes answer) b = ⊥
QuietCall wake a (call.send_to s addr port bytes answer) b = ⊥
QuietCall wake a (call.receive s answer bytes) b = QuietReceive s answer × (b ≡ record a { round = b.round })
QuietCall wake a (call.listen s addr port answer) b = ⊥
QuietCall wake a (call.accept l s answer) b = QuietAccept a s answer b
QuietCall wake a (call.begin s addr port server to answer) b = ⊥
QuietCall wake a (call.stands s answer) b = QuietStanding answer × (b ≡ record a { round = b.round })
QuietCall wake a (call.read s answer bytes) b = QuietRead a s answer b
QuietCall wake a (call.write s bytes answer) b = QuietWrite a s bytes answer b
QuietCall wake a (call.close s) b = (s ≡ 250) × (b ≡ record a { round = b.round })
QuietCall wake a (call.wait pause answer) b = WaitsInTime wake a pause × (b ≡ record a { clock = None; round = b.round })
QuietCall wake a (call.ready answer) b = b ≡ record a { round = b.round }
QuietCall wake a (call.now answer) b = b ≡ record a { clock = answer; round = b.round }
QuietCall wake a (call.print bytes ok) b = (bytes ≡ a.log.text) × (b ≡ record a { log = after_print a.log ok; round = b.round })

-- Such a call in its turn, behind sources that were passed over.
abbrev pub QuietStep : (wake : Option ℕ) → Edge → Call → Edge → Type 0
QuietStep wake a x b = (at : Edge) × (Passes a at × (QuietCall wake at x b × InTurn (IsLate at) at.round x b.round))

-- Such calls, one after the other.
abbrev pub Quiet : (wake : Option ℕ) → Edge → List Call → Edge → Type 0
Quiet wake a [] b = Passes a b
Quiet wake a (x ∷ xs) b = (m : Edge) × (QuietStep wake a x m × Quiet wake m xs b)

-- A source was looked at: what it gave, under which number, and with which bytes.
abbrev pub Looks : Place → Edge → List Call → (id : ℕ) → Step → (buffer : List ℕ) → Edge → Type 0
Looks place.Datagrams a calls id gave buffer b = HearsRequests a.hears calls gave buffer × ((id ≡ 0) × (b ≡ record a { round = b.round }))
Looks place.Listener a calls id gave buffer b =
    Accepts a.hears a.seats a.next_conn a.clock a.retry calls gave b.seats b.retry
    × (StepNumbers gave a.next_conn b.next_conn id × (b ≡ record a { retry = b.retry; next_conn = b.next_conn; seats = b.seats; round = b.round }))
Looks (place.Seat index) a calls id gave buffer b = HearsSeat index a.seats calls id gave buffer b.seats × (b ≡ record a { seats = b.seats; round = b.round })
Looks (place.Link key) a calls id gave buffer b = LooksAt key a.links calls id gave buffer b.links × (b ≡ record a { links = b.links; round = b.round })

-- It gave this.
abbrev pub IsFound : Step → Found → Type 0
IsFound step.Nothing found = ⊥
IsFound (step.Event f) found = f ≡ found
IsFound (step.Last f) found = f ≡ found

-- An event was found by a look at one source in its turn, at the moment that was read.
pub record Finds (a : Edge) (calls : List Call) (e : ModelEvent) (b : Edge) : Type 0 where
  pub token : ℕ
  pub moment : ℕ
  pub id : ℕ
  pub gave : Step
  pub found : Found
  pub buffer : List ℕ
  pub clock : a.clock ≡ Some moment
  pub looks : Looks (place_at token) a calls id gave buffer b
  pub turn : GivesInTurn (IsLate a) gave a.round token b.round
  pub one : IsFound gave found
  pub event : e ≡ event_found moment id found buffer

-- A Tick comes without a call, where the moment that was read is the wake or later, no source is next, and none came since the last wait.
pub record Ticks (wake : Option ℕ) (a : Edge) (calls : List Call) (e : ModelEvent) (b : Edge) : Type 0 where
  pub moment : ℕ
  pub none : calls ≡ []
  pub clock : a.clock ≡ Some moment
  pub due : is_reached wake moment ≡ true
  pub last : next_token a.round.watch ≡ None
  pub first : a.round.watch.ticked ≡ false
  pub event : e ≡ event_found moment 0 (plain_found kind.Tick) []
  pub left : b ≡ record a { round = record a.round { watch = record a.round.watch { ticked = true } } }

-- An event was handed out: behind quiet calls, none of which failed to write the log, a look found it, or it is a Tick. No try to take a
-- connection is overdue then.
pub record Hears (wake : Option ℕ) (e : ModelEvent) (a : Edge) (calls : List Call) (b : Edge) : Type 0 where
  pub between : Edge
  pub after : Edge
  pub before : List Call
  pub last : List Call
  pub whole : calls ≡ before ++ last
  pub quiet : Quiet wake a before between
  pub written : between.log.failed ≡ false
  pub heard : Finds between last e after ⊎ Ticks wake between last e after
  pub tried : IsSoon after.hears after.retry after.clock
  pub left : b ≡ record after { clock = None }

-- The log has failed, the clock couldn't be read, or waiting failed.
abbrev pub FailedBy : Edge → List Call → Type 0
FailedBy a calls =
    (a.log.failed ≡ true)
    ⊎ ((before : List Call) × ((calls ≡ before ++ call.now None ∷ []) ⊎ ((pause : Option ℕ) × (calls ≡ before ++ call.wait pause false ∷ []))))

-- Nothing was handed out, as something failed.
pub record Fails (wake : Option ℕ) (a : Edge) (calls : List Call) (b : Edge) : Type 0 where
  pub between : Edge
  pub quiet : Quiet wake a calls between
  pub why : FailedBy between calls
  pub left : b ≡ record between { clock = None; log = record between.log { failed = false } }

-- A call that is made for what has come already: nothing is waited for, nothing is asked for of what a wait found, and nothing is printed.
abbrev pub IsAtHand : Call → Type 0
IsAtHand (call.bind s addr port answer) = Unit {0}
IsAtHand (call.connect s addr port answer) = Unit {0}
IsAtHand (call.send s bytes answer) = Unit {0}
IsAtHand (call.send_to s addr port bytes answer) = Unit {0}
IsAtHand (call.receive s answer bytes) = Unit {0}
IsAtHand (call.listen s addr port answer) = Unit {0}
IsAtHand (call.accept l s answer) = Unit {0}
IsAtHand (call.begin s addr port server to answer) = Unit {0}
IsAtHand (call.stands s answer) = Unit {0}
IsAtHand (call.read s answer bytes) = Unit {0}
IsAtHand (call.write s bytes answer) = Unit {0}
IsAtHand (call.close s) = Unit {0}
IsAtHand (call.wait pause answer) = ⊥
IsAtHand (call.ready answer) = ⊥
IsAtHand (call.now answer) = Unit {0}
IsAtHand (call.print bytes answer) = ⊥

abbrev pub AreAtHand : List Call → Type 0
AreAtHand calls = AllByRecursion IsAtHand calls

-- An event that had come already was handed out: as one that is asked for without a wake, by such calls.
abbrev pub Gathers : ModelEvent → Edge → List Call → Edge → Type 0
Gathers e a calls b = Hears None e a calls b × AreAtHand calls

-- None has come: the log has failed, so that nothing was looked at, or the clock couldn't be read, or no source is next. No try to take a
-- connection is overdue then.
abbrev pub IsNoneNext : Edge → List Call → Edge → Type 0
IsNoneNext a calls between =
    ((a.log.failed ≡ true) × (calls ≡ []))
    ⊎ ((calls ≡ call.now None ∷ []) ⊎ ((next_token between.round.watch ≡ None) × IsSoon between.hears between.retry between.clock))

-- One event more was asked for, and none had come: quiet calls of this kind were made, until no source was next.
pub record NoneCame (a : Edge) (calls : List Call) (b : Edge) : Type 0 where
  pub between : Edge
  pub quiet : Quiet None a calls between
  pub at_hand : AreAtHand calls
  pub why : IsNoneNext a calls between
  pub left : b ≡ record between { clock = None }

-- What one turn did.
abbrev pub Turns : (wake : Option ℕ) → Turn → ModelEvent → Edge → List Call → Edge → Type 0
Turns wake turn.Event e a calls b = Hears wake e a calls b
Turns wake turn.Nothing e a calls b = Quiet wake a calls b × (b.log.failed ≡ false)
Turns wake turn.Failed e a calls b = Fails wake a calls b

-- What a look at the source of this token did, which was taken before.
abbrev pub HearsAt : (heard : Bool) → ModelEvent → (token moment : ℕ) → Edge → List Call → Edge → Type 0
HearsAt true e token moment a calls b =
    (id : ℕ) × (gave : Step) × (found : Found) × (buffer : List ℕ) × (Looks (place_at token) a calls id gave buffer b × (IsFound gave found
    × ((e ≡ event_found moment id found buffer) × (b.round ≡ record a.round { watch = again_if gave token a.round.watch }))))
HearsAt false e token moment a calls b =
    (id : ℕ) × (buffer : List ℕ) × (Looks (place_at token) a calls id step.Nothing buffer b
    × (b.round ≡ record a.round { watch = look_marks (place_at token) step.Nothing calls a.round.watch }))

-- What a look at the listener did, out of turn, and what looks at several sources did.
abbrev pub HearsOne : (wake : Option ℕ) (heard : Bool) → ModelEvent → Edge → List Call → Edge → Type 0
HearsOne wake true e a calls b = Finds a calls e b
HearsOne wake false e a calls b = Quiet wake a calls b

abbrev pub HearsSome : (wake : Option ℕ) (heard : Bool) → ModelEvent → Edge → List Call → Edge → Type 0
HearsSome wake true e a calls b =
    (between : Edge) × (before last : List Call) × ((calls ≡ before ++ last) × (Quiet wake a before between × ((between.log ≡ a.log) × Finds between last e b)))
HearsSome wake false e a calls b = Quiet wake a calls b

-- What the rest of a turn did.
abbrev pub Rests : (wake : Option ℕ) → Turn → Edge → List Call → Edge → Type 0
Rests wake turn.Event a calls b = ⊥
Rests wake turn.Nothing a calls b = Quiet wake a calls b
Rests wake turn.Failed a calls b = Fails wake a calls b
