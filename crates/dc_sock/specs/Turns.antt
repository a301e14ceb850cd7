-- That what is ready is looked at in turn, over whole runs, in the calls of the system.
use Rattle.std.specs.Prelude.{◌≡◌, ◌≤◌, ◌<◌, ◌-◌, ◌==◌, ℕ, Bool, true, false, List, [], ◌∷◌, eqb}
use Rattle.std.specs.List.{AllByRecursion, IsDistinct, list_any}
use Rattle.std.specs.declared.option.Option.{Option}
use Rattle.std.specs.declared.option.Option.TheVariants.{None, Some}
use Rattle.slab.specs.Slab.{get}
use Rattle.dc_event.specs.History.{Exchange}
use Rattle.dc_system.specs.Call.{Call}
use Rattle.dc_system.specs.Call as call
use Rattle.dc_sock.specs.declared.link.Link.{Link}
use Rattle.dc_sock.specs.Edge.{Edge}
use Rattle.dc_sock.specs.Links.{link_socket}
use Rattle.dc_sock.specs.Promises.{GoesOnListening}
use Rattle.dc_sock.specs.World.{Shown}

-- How many looks at a socket other than the listener a call is.
abbrev pub looks_by : Call → ℕ
looks_by (call.bind s addr port answer) = 0
looks_by (call.connect s addr port answer) = 0
looks_by (call.send s bytes answer) = 0
looks_by (call.send_to s addr port bytes answer) = 0
looks_by (call.receive s answer bytes) = 1
looks_by (call.listen s addr port answer) = 0
looks_by (call.accept l s answer) = 0
looks_by (call.begin s addr port server to answer) = 0
looks_by (call.stands s answer) = 1
looks_by (call.read s answer bytes) = 1
looks_by (call.write s bytes answer) = 0
looks_by (call.close s) = 0
looks_by (call.wait pause answer) = 0
looks_by (call.ready answer) = 0
looks_by (call.now answer) = 0
looks_by (call.print bytes answer) = 0

-- Whether it is a look at this socket.
abbrev pub is_look : (socket : ℕ) → Call → Bool
is_look socket (call.bind s addr port answer) = false
is_look socket (call.connect s addr port answer) = false
is_look socket (call.send s bytes answer) = false
is_look socket (call.send_to s addr port bytes answer) = false
is_look socket (call.receive s answer bytes) = s == socket
is_look socket (call.listen s addr port answer) = false
is_look socket (call.accept l s answer) = l == socket
is_look socket (call.begin s addr port server to answer) = false
is_look socket (call.stands s answer) = s == socket
is_look socket (call.read s answer bytes) = s == socket
is_look socket (call.write s bytes answer) = false
is_look socket (call.close s) = false
is_look socket (call.wait pause answer) = false
is_look socket (call.ready answer) = false
is_look socket (call.now answer) = false
is_look socket (call.print bytes answer) = false

-- Whether it is a wait.
abbrev pub is_wait : Call → Bool
is_wait (call.bind s addr port answer) = false
is_wait (call.connect s addr port answer) = false
is_wait (call.send s bytes answer) = false
is_wait (call.send_to s addr port bytes answer) = false
is_wait (call.receive s answer bytes) = false
is_wait (call.listen s addr port answer) = false
is_wait (call.accept l s answer) = false
is_wait (call.begin s addr port server to answer) = false
is_wait (call.stands s answer) = false
is_wait (call.read s answer bytes) = false
is_wait (call.write s bytes answer) = false
is_wait (call.close s) = false
is_wait (call.wait pause answer) = true
is_wait (call.ready answer) = false
is_wait (call.now answer) = false
is_wait (call.print bytes answer) = false

-- Whether it tells that this socket is ready.
abbrev pub is_that : (socket : ℕ) → Option ℕ → Bool
is_that socket None = false
is_that socket (Some token) = token == socket

abbrev pub is_told : (socket : ℕ) → Call → Bool
is_told socket (call.bind s addr port answer) = false
is_told socket (call.connect s addr port answer) = false
is_told socket (call.send s bytes answer) = false
is_told socket (call.send_to s addr port bytes answer) = false
is_told socket (call.receive s answer bytes) = false
is_told socket (call.listen s addr port answer) = false
is_told socket (call.accept l s answer) = false
is_told socket (call.begin s addr port server to answer) = false
is_told socket (call.stands s answer) = false
is_told socket (call.read s answer bytes) = false
is_told socket (call.write s bytes answer) = false
is_told socket (call.close s) = false
is_told socket (call.wait pause answer) = false
is_told socket (call.ready answer) = is_that socket answer
is_told socket (call.now answer) = false
is_told socket (call.print bytes answer) = false

-- One of two, by a question.
abbrev pub Either : Bool → Type 0 → Type 0 → Type 0
Either true A B = A
Either false A B = B

-- So many sources at most are looked at before the next wait, and 64 at most between two waits, not counting looks at the listener.
abbrev pub WithinTurns : (turns : ℕ) → List Call → Type 0
WithinTurns turns [] = Unit {0}
WithinTurns turns (x ∷ xs) = Either (is_wait x) (WithinTurns 64 xs) ((looks_by x ≤ turns) × WithinTurns (turns - looks_by x) xs)

-- This socket is looked at before more than so many waits come.
abbrev pub IsSeenSoon : (socket waits : ℕ) → List Call → Type 0
IsSeenSoon socket waits [] = Unit {0}
IsSeenSoon socket waits (x ∷ xs) =
    Either (is_look socket x) (Unit {0}) (Either (is_wait x) ((0 < waits) × IsSeenSoon socket (waits - 1) xs) (IsSeenSoon socket waits xs))

-- It is, whenever it was told to be ready.
abbrev pub IsSeen : (socket waits : ℕ) → List Call → Type 0
IsSeen socket waits [] = Unit {0}
IsSeen socket waits (x ∷ xs) = Either (is_told socket x) (IsSeenSoon socket waits xs) (Unit {0}) × IsSeen socket waits xs

-- The sockets that are told to be ready, and those that are made, have numbers below 250.
abbrev pub IsLowTold : Option ℕ → Type 0
IsLowTold None = Unit {0}
IsLowTold (Some token) = token < 250

abbrev pub IsLow : Call → Type 0
IsLow (call.bind s addr port answer) = s < 250
IsLow (call.connect s addr port answer) = s < 250
IsLow (call.send s bytes answer) = s < 250
IsLow (call.send_to s addr port bytes answer) = Unit {0}
IsLow (call.receive s answer bytes) = Unit {0}
IsLow (call.listen s addr port answer) = Unit {0}
IsLow (call.accept l s answer) = Unit {0}
IsLow (call.begin s addr port server to answer) = s < 250
IsLow (call.stands s answer) = Unit {0}
IsLow (call.read s answer bytes) = Unit {0}
IsLow (call.write s bytes answer) = Unit {0}
IsLow (call.close s) = Unit {0}
IsLow (call.wait pause answer) = Unit {0}
IsLow (call.ready answer) = IsLowTold answer
IsLow (call.now answer) = Unit {0}
IsLow (call.print bytes answer) = Unit {0}

abbrev pub AreLow : List Call → Type 0
AreLow calls = AllByRecursion IsLow calls

-- What is ready is in order: each token once, and each below 250, as are those that are held back and the sockets of all links.
pub record IsInOrder (e : Edge) : Type 0 where
  pub once : IsDistinct eqb e.round.watch.ready
  pub below : (token : ℕ) → list_any (eqb token) e.round.watch.ready ≡ true → token < 250
  pub held : (token : ℕ) → list_any (eqb token) e.round.watch.held ≡ true → token < 250
  pub links : (key : ℕ) (link : Link) → get e.links key ≡ Some link → link_socket key < 250

-- The calls of a run: no more looks between two waits than there are turns, and what is ready stays in order. While clients are heard, the two
-- sockets on which they are heard are looked at before more than four waits come, whenever they were told to be ready.
abbrev pub LooksInTurn : {S : Type 0} → (S → List Call → S → Type 0) → Shown S → List Exchange → Shown S → Type 0
LooksInTurn {S} called a xs b =
    (calls : List Call) × (called a.system calls b.system × (WithinTurns a.edge.round.watch.turns calls
    × ((IsInOrder a.edge → AreLow calls → IsInOrder b.edge)
    × (a.edge.hears ≡ true → GoesOnListening xs → IsInOrder a.edge → AreLow calls → (socket : ℕ) → socket ≤ 1 → IsSeen socket 4 calls))))
