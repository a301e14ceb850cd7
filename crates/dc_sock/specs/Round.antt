-- Which source is looked at when: each in its turn.
use Rattle.std.specs.Prelude.{◌≡◌, ◌⊎◌, ◌<◌, ◌-◌, ◌==◌, ◌||◌, not, ℕ, Bool, true, if◌then◌else◌, List, [], ◌∷◌, length, fold}
use Rattle.std.specs.declared.option.Option.{Option}
use Rattle.std.specs.declared.option.Option.TheVariants.{None, Some}
use Rattle.dc_system.specs.Call.{Call}
use Rattle.dc_system.specs.Call as call
use Rattle.dc_system.specs.declared.answers.Accepted.{Accepted}
use Rattle.dc_system.specs.declared.answers.Accepted.TheVariants as accepted
use Rattle.dc_system.specs.declared.answers.Bound.{Bound}
use Rattle.dc_system.specs.declared.answers.Bound.TheVariants as bound
use Rattle.dc_system.specs.declared.answers.NoSocket.{NoSocket}
use Rattle.dc_system.specs.declared.answers.NoSocket.TheVariants.{PortTaken, Full, Failed}
use Rattle.dc_sock.specs.declared.found.Step.{Step}
use Rattle.dc_sock.specs.declared.found.Step.TheVariants as step
use Rattle.dc_sock.specs.declared.place.Place.{Place}
use Rattle.dc_sock.specs.declared.place.Place.TheVariants as place
use Rattle.dc_sock.specs.Moment.{is_reached}
use Rattle.dc_sock.specs.Ready.{Watched, mark_in, hold_in, next_token, without_token, renewed}

-- What is ready, how many may be looked at before the next wait, whether a Tick was given since the last, and how often the sockets that it
-- found ready may still be asked for.
pub record Round : Type 0 where
  pub watch : Watched
  pub asking : ℕ

-- At rest: all of them were asked for.
abbrev pub round_of : Watched → Round
round_of watch = record { watch = watch; asking = 0 }

-- The source of this token is looked at: it is the next, and that takes one of the turns.
abbrev pub Takes : Round → (token : ℕ) → Round → Type 0
Takes r token after = (next_token r.watch ≡ Some token) × (after ≡ record r { watch = without_token r.watch })

-- The listener is looked at, out of turn, where a try to take a connection is overdue.
abbrev pub TakesOrTries : (late : Type 0) → Round → (token : ℕ) → Round → Type 0
TakesOrTries late r token after = Takes r token after ⊎ (late × ((token ≡ 1) × (after ≡ r)))

-- The listener is ready still where a connection was gone at once, or found no place.
abbrev pub again_behind : Accepted → (listener socket : ℕ) → Watched → Watched
again_behind accepted.Nothing listener socket w = w
again_behind (accepted.Connection peer) listener socket w = if socket == 250 then mark_in w listener else w
again_behind accepted.Aborted listener socket w = mark_in w listener
again_behind accepted.Failed listener socket w = w

-- A socket that couldn't be had or used is to be looked at, so that this is told: at once, or, where there was no descriptor for it, when the
-- socket of another link is closed.
abbrev pub missing_in : NoSocket → (socket : ℕ) → Watched → Watched
missing_in PortTaken socket w = mark_in w socket
missing_in Full socket w = hold_in w socket
missing_in Failed socket w = mark_in w socket

abbrev pub unless_made : Bound → (socket : ℕ) → Watched → Watched
unless_made bound.Made socket w = w
unless_made (bound.Refused cause) socket w = missing_in cause socket w

abbrev pub marked_by : Watched → Call → Watched
marked_by w (call.bind s addr port answer) = unless_made answer s w
marked_by w (call.connect s addr port ok) = if ok then w else mark_in w s
marked_by w (call.send s bytes ok) = if ok then w else mark_in w s
marked_by w (call.send_to s addr port bytes ok) = w
marked_by w (call.receive s answer bytes) = w
marked_by w (call.listen s addr port answer) = w
marked_by w (call.accept l s answer) = again_behind answer l s w
marked_by w (call.begin s addr port server to answer) = unless_made answer s w
marked_by w (call.stands s answer) = w
marked_by w (call.read s answer bytes) = w
marked_by w (call.write s bytes answer) = w
marked_by w (call.close s) = w
marked_by w (call.wait pause answer) = w
marked_by w (call.ready answer) = w
marked_by w (call.now answer) = w
marked_by w (call.print bytes answer) = w

abbrev pub marked_by_all : Watched → List Call → Watched
marked_by_all w calls = fold marked_by w calls

-- A look at the listener that gave nothing.
abbrev pub accept_marks : Step → List Call → Watched → Watched
accept_marks step.Nothing calls w = marked_by_all w calls
accept_marks (step.Event found) calls w = w
accept_marks (step.Last found) calls w = w

-- A source that gave an event is looked at again, behind the others. One that gave nothing or its last isn't.
abbrev pub again_if : Step → (token : ℕ) → Watched → Watched
again_if step.Nothing token w = w
again_if (step.Event found) token w = mark_in w token
again_if (step.Last found) token w = w

-- A look at this source in its turn gave this.
abbrev pub GivesInTurn : (late : Type 0) → Step → Round → (token : ℕ) → Round → Type 0
GivesInTurn late gave r token after = (taken : Round) × (TakesOrTries late r token taken × (after ≡ record taken { watch = again_if gave token taken.watch }))

-- One socket was told to be ready, or none is any more.
abbrev pub Told : Round → Option ℕ → Round → Type 0
Told r None after = after ≡ record r { asking = 0 }
Told r (Some token) after = after ≡ record { watch = mark_in r.watch token; asking = r.asking - 1 }

-- What is ready behind a look at this source that gave this by these calls, before the source itself is.
abbrev pub look_marks : Place → Step → List Call → Watched → Watched
look_marks place.Datagrams gave calls w = w
look_marks place.Listener gave calls w = accept_marks gave calls w
look_marks (place.Seat index) gave calls w = w
look_marks (place.Link key) gave calls w = w

-- A call after which nothing was heard. A look at a source comes in its turn. A wait comes where no source is next: none is ready, or 64 were
-- looked at since the last. All that it found ready is asked for before the clock is read again.
abbrev pub InTurn : (late : Type 0) → Round → Call → Round → Type 0
InTurn late r (call.bind s addr port answer) after = ⊥
InTurn late r (call.connect s addr port answer) after = ⊥
InTurn late r (call.send s bytes answer) after = ⊥
InTurn late r (call.send_to s addr port bytes answer) after = ⊥
InTurn late r (call.receive s answer bytes) after = Takes r s after
InTurn late r (call.listen s addr port answer) after = ⊥
InTurn late r (call.accept l s answer) after =
    (l ≡ 1) × ((taken : Round) × (TakesOrTries late r 1 taken × (after ≡ record taken { watch = again_behind answer 1 s taken.watch })))
InTurn late r (call.begin s addr port server to answer) after = ⊥
InTurn late r (call.stands s answer) after = Takes r s after
InTurn late r (call.read s answer bytes) after = Takes r s after
InTurn late r (call.write s bytes answer) after = (next_token r.watch ≡ Some s) × (after ≡ r)
InTurn late r (call.close s) after = after ≡ r
InTurn late r (call.wait pause answer) after =
    (next_token r.watch ≡ None) × (after ≡ record { watch = renewed r.watch; asking = if answer then 250 else 0 })
InTurn late r (call.ready answer) after = (0 < r.asking) × Told r answer after
InTurn late r (call.now answer) after = (r.asking ≡ 0) × (after ≡ r)
InTurn late r (call.print bytes answer) after = after ≡ r

-- Something is left to do: a Tick is due, or a source is ready.
abbrev pub is_busy : (wake clock : Option ℕ) → List ℕ → Bool
is_busy wake None ready = not (length ready == 0)
is_busy wake (Some now) ready = is_reached wake now || not (length ready == 0)

-- A wait doesn't last while a source is ready, and a Tick that is due comes before it.
abbrev pub IsAtOnce : List ℕ → (pause : Option ℕ) → Type 0
IsAtOnce [] pause = Unit {0}
IsAtOnce (token ∷ tokens) pause = pause ≡ Some 0

abbrev pub IsTicked : (wake clock : Option ℕ) → (ticked : Bool) → Type 0
IsTicked wake None ticked = Unit {0}
IsTicked wake (Some now) ticked = is_reached wake now ≡ true → ticked ≡ true
