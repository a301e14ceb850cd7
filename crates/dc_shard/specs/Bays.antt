-- Bays: each has a core, and may be given an event.
use Rattle.std.specs.Prelude.{◌≡◌, ◌≤◌, ◌+◌, ◌^◌, ℕ, zero, suc, Bool, true, false, List, [], ◌∷◌}
use Rattle.std.specs.declared.option.Option.{Option}
use Rattle.std.specs.declared.option.Option.TheVariants.{None, Some}
use Rattle.dc_model.specs.Event.{Event, Action}
use Rattle.dc_engine.specs.Automaton.{Automaton}
use Rattle.dc_split.specs.Routing.{all_outer}
use Rattle.dc_split.specs.Round.{Given, done_by}
use Rattle.dc_shard.specs.declared.bay.Bay.{Bay}

-- What the core of a bay is given.
abbrev pub given_if : Bool → Event → List ℕ → Option Given
given_if false e words = None
given_if true e words = Some (record { event = e; words = words })

abbrev pub given_of : {E O : Type 0} → Bay E O → Option Given
given_of b = given_if b.given b.inbox b.draws

-- What each is given.
abbrev pub givens_of : {E O : Type 0} → List (Bay E O) → List (Option Given)
givens_of [] = []
givens_of (b ∷ bs) = given_of b ∷ givens_of bs

-- The states of the cores.
abbrev pub states_of : {E O S : Type 0} → (E → S) → List (Bay E O) → List S
states_of state [] = []
states_of state (b ∷ bs) = state b.core ∷ states_of state bs

-- What takes each core's actions.
abbrev pub outs_of : {E O : Type 0} → List (Bay E O) → List O
outs_of [] = []
outs_of (b ∷ bs) = b.out ∷ outs_of bs

-- A core may make so many further steps.
abbrev pub MayStep : {S : Type 0} → Automaton S → ℕ → S → Type 0
MayStep m steps s = m.handled s + steps ≤ 2 ^ 60

abbrev pub MayStepEach : {S : Type 0} → Automaton S → ℕ → List S → Type 0
MayStepEach m steps [] = Unit {0}
MayStepEach m steps (s ∷ ss) = MayStep m steps s × MayStepEach m steps ss

-- Between two states of a bay its core made its step, if it was given an event, and its out acted that step's actions, with outer numbers
-- of links. Then it is given none.
pub record Stepped {E O S : Type 0} (acted : O → List Action → O → Type 0) (m : Automaton S) (state : E → S) (cores core : ℕ) (old new : Bay E O) : Type 0 where
  pub moved : state new.core ≡ (done_by m (state old.core) (given_of old)).state
  pub free : new.given ≡ false
  pub acts : acted old.out (all_outer cores core (done_by m (state old.core) (given_of old)).actions) new.out

-- Each of them, from the core at this place on.
abbrev pub SteppedEach : {E O S : Type 0} → (O → List Action → O → Type 0) → Automaton S → (E → S) → (cores from : ℕ) → (old new : List (Bay E O)) → Type 0
SteppedEach acted m state cores from [] [] = Unit {0}
SteppedEach acted m state cores from [] (c ∷ cs) = ⊥
SteppedEach acted m state cores from (b ∷ bs) [] = ⊥
SteppedEach acted m state cores from (b ∷ bs) (c ∷ cs) = Stepped acted m state cores from b c × SteppedEach acted m state cores (from + 1) bs cs

-- No bay is given an event.
abbrev pub AreFree : {E O : Type 0} → List (Bay E O) → Type 0
AreFree [] = Unit {0}
AreFree (b ∷ bs) = (b.given ≡ false) × AreFree bs

-- How many bays are given an event.
abbrev pub one_if : Bool → ℕ
one_if true = 1
one_if false = 0

abbrev pub count_given : {E O : Type 0} → List (Bay E O) → ℕ
count_given [] = 0
count_given (b ∷ bs) = one_if b.given + count_given bs

-- The list with another in this place.
abbrev pub with_at : {A : Type 0} → ℕ → A → List A → List A
with_at n a [] = []
with_at zero a (x ∷ xs) = a ∷ xs
with_at (suc n) a (x ∷ xs) = x ∷ with_at n a xs
