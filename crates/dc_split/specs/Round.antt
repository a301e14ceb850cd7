-- A round: some cores are given an event each, and make their steps at once.
use Rattle.std.specs.Prelude.{◌≢◌, ℕ, ◌+◌, if◌then◌else◌, ◌==◌, List, [], ◌∷◌, ◌++◌, length, map}
use Rattle.std.specs.declared.option.Option.{Option}
use Rattle.std.specs.declared.option.Option.TheVariants.{None, Some}
use Rattle.dc_model.specs.Event.{Event, tick, Action}
use Rattle.dc_engine.specs.Automaton.{Automaton}
use Rattle.dc_split.specs.Routing.{inner, all_outer}
use Rattle.dc_split.specs.Split.{route, given_at}

-- What a core is given: an event, with its number as the core sees it, and its random words.
pub record Given : Type 0 where
  pub event : Event
  pub words : List ℕ

-- What a core did in a round, and its state behind it.
pub record Done (S : Type 0) : Type 0 where
  pub state : S
  pub actions : List Action

-- A core makes its step, if it is given an event.
unfoldable pub done_by : {S : Type 0} → Automaton S → S → Option Given → Done S
done_by m s None = record { state = s; actions = [] }
done_by m s (Some g) = record { state = m.next s g.event g.words; actions = m.actions s g.event g.words }

-- The round of these cores, each with what it is given.
unfoldable pub round : {S : Type 0} → Automaton S → List S → List (Option Given) → List (Done S)
round m [] gs = []
round m (s ∷ ss) [] = done_by m s None ∷ round m ss []
round m (s ∷ ss) (g ∷ gs) = done_by m s g ∷ round m ss gs

-- The states behind it.
abbrev pub states_of : {S : Type 0} → List (Done S) → List S
states_of ds = map (λ d. d.state) ds

-- Handing out events

-- An event that is handed to a core.
pub record Hand : Type 0 where
  pub core : ℕ
  pub given : Given

-- The events from the one with the random words of number n on, each with the core that it goes to while no core has made a step.
unfoldable pub hands_of : {S : Type 0} → Automaton S → List S → (ℕ → List ℕ) → ℕ → List Event → List Hand
hands_of m ss words n [] = []
hands_of m ss words n (e ∷ es) =
    record { core = route m ss e; given = record { event = inner (length ss) e; words = words n } } ∷ hands_of m ss words (n + 1) es

-- What a core was handed.
unfoldable pub given_to : ℕ → List Hand → Option Given
given_to core [] = None
given_to core (h ∷ hs) = if h.core == core then Some h.given else given_to core hs

-- What each core was handed, from the one at this place on.
unfoldable pub givens_from : {S : Type 0} → ℕ → List Hand → List S → List (Option Given)
givens_from core hs [] = []
givens_from core hs (s ∷ ss) = given_to core hs ∷ givens_from (core + 1) hs ss

-- What the cores did, in the order in which their events were heard, with outer numbers of links.
unfoldable pub played : {S : Type 0} → ℕ → List (Done S) → List Hand → List Action
played cores ds [] = []
played cores ds (h ∷ hs) = all_outer cores h.core (given_at h.core (λ d. d.actions) ds) ++ played cores ds hs

-- No core is handed two events.
abbrev pub IsFree : ℕ → List Hand → Type 0
IsFree core [] = Unit {0}
IsFree core (h ∷ hs) = (h.core ≢ core) × IsFree core hs

abbrev pub AreApart : List Hand → Type 0
AreApart [] = Unit {0}
AreApart (h ∷ hs) = IsFree h.core hs × AreApart hs

-- None of these is a tick.
abbrev pub NoTick : List Event → Type 0
NoTick [] = Unit {0}
NoTick (e ∷ es) = (e.kind ≢ tick) × NoTick es

-- A tick may only be the first.
abbrev pub TickFirst : List Event → Type 0
TickFirst [] = Unit {0}
TickFirst (e ∷ es) = NoTick es
