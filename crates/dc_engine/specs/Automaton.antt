-- What an engine means: a machine over states, and its runs over lists of events.
use Rattle.std.specs.Prelude.{◌≡◌, ℕ, ◌+◌, Bool, false, List, [], ◌∷◌, ◌++◌}
use Rattle.std.specs.declared.option.Option.{Option}
use Rattle.dc_model.specs.Event.{Event, Action}

-- A machine over states S.
pub record Automaton (S : Type 0) : Type 0 where
  -- the actions of the launch
  pub opening : S → List Action
  -- the moment at which a tick is wanted
  pub wake : S → Option ℕ
  -- whether no further event is wanted
  pub finished : S → Bool
  -- the actions and the next state, for an event and its random words
  pub actions : S → Event → List ℕ → List Action
  pub next : S → Event → List ℕ → S
  -- how many events were handled
  pub handled : S → ℕ

-- The state after these events, the first of which has the random words of number i.
abbrev pub state_after : {S : Type 0} → Automaton S → (ℕ → List ℕ) → ℕ → S → List Event → S
state_after m words i s [] = s
state_after m words i s (e ∷ es) = state_after m words (i + 1) (m.next s e (words i)) es

-- The actions of these events in turn.
abbrev pub actions_of : {S : Type 0} → Automaton S → (ℕ → List ℕ) → ℕ → S → List Event → List Action
actions_of m words i s [] = []
actions_of m words i s (e ∷ es) = m.actions s e (words i) ++ actions_of m words (i + 1) (m.next s e (words i)) es

-- The wake before each of these events.
abbrev pub wakes_before : {S : Type 0} → Automaton S → (ℕ → List ℕ) → ℕ → S → List Event → List (Option ℕ)
wakes_before m words i s [] = []
wakes_before m words i s (e ∷ es) = m.wake s ∷ wakes_before m words (i + 1) (m.next s e (words i)) es

-- The machine was not finished before any of these events.
abbrev pub GoesOn : {S : Type 0} → Automaton S → (ℕ → List ℕ) → ℕ → S → List Event → Type 0
GoesOn m words i s [] = Unit {0}
GoesOn m words i s (e ∷ es) = (m.finished s ≡ false) × GoesOn m words (i + 1) (m.next s e (words i)) es
