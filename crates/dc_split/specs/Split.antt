-- Several cores that share the events: each event goes to one of them.
use Rattle.std.specs.Prelude.{ℕ, zero, suc, ◌+◌, false, if◌then◌else◌, nat_le, List, [], ◌∷◌, map, length}
use Rattle.std.specs.declared.option.Option.{Option}
use Rattle.std.specs.declared.option.Option.TheVariants.{None, Some}
use Rattle.dc_model.specs.Event.{Event, Action}
use Rattle.dc_engine.specs.Automaton.{Automaton}
use Rattle.dc_split.specs.Routing.{core_by, inner, all_outer}

-- The core that is due

-- A core, by its place, and the moment at which it wants a tick.
pub record Due : Type 0 where
  pub core : ℕ
  pub moment : ℕ

-- The first of the earlier ones: a core's moment, where it has one, against that of the cores behind it.
abbrev pub earlier : ℕ → Option ℕ → Option Due → Option Due
earlier core None behind = behind
earlier core (Some moment) None = Some (record { core = core; moment = moment })
earlier core (Some moment) (Some d) = if nat_le moment d.moment then Some (record { core = core; moment = moment }) else Some d

-- The core with the least moment, the lowest where some are equal, and none where none has one. The first of these stands at this place.
unfoldable pub due_from : ℕ → List (Option ℕ) → Option Due
due_from core [] = None
due_from core (w ∷ ws) = earlier core w (due_from (core + 1) ws)

-- The core that a tick goes to: the first, where none is due.
abbrev pub due_core : Option Due → ℕ
due_core None = 0
due_core (Some d) = d.core

abbrev pub due_moment : Option Due → Option ℕ
due_moment None = None
due_moment (Some d) = Some d.moment

-- Places of a list

-- The list with the one at a place changed.
unfoldable pub changed : {S : Type 0} → ℕ → (S → S) → List S → List S
changed n f [] = []
changed zero f (s ∷ ss) = f s ∷ ss
changed (suc n) f (s ∷ ss) = s ∷ changed n f ss

-- What the one at a place gives.
unfoldable pub given_at : {S B : Type 0} → ℕ → (S → List B) → List S → List B
given_at n f [] = []
given_at zero f (s ∷ ss) = f s
given_at (suc n) f (s ∷ ss) = given_at n f ss

-- The machine

-- The core that an event goes to.
unfoldable pub route : {S : Type 0} → Automaton S → List S → Event → ℕ
route m ss e = core_by e.kind (length ss) (due_core (due_from 0 (map m.wake ss))) e

-- What an event makes of the cores, where it goes to this one.
unfoldable pub next_at : {S : Type 0} → Automaton S → ℕ → List S → Event → List ℕ → List S
next_at m core ss e words = changed core (λ s. m.next s (inner (length ss) e) words) ss

-- What is done then: the actions of that core, with outer numbers of links.
unfoldable pub actions_at : {S : Type 0} → Automaton S → ℕ → List S → Event → List ℕ → List Action
actions_at m core ss e words = all_outer (length ss) core (given_at core (λ s. m.actions s (inner (length ss) e) words) ss)

-- How many events all of them handled.
unfoldable pub handled_by : {S : Type 0} → Automaton S → List S → ℕ
handled_by m [] = 0
handled_by m (s ∷ ss) = m.handled s + handled_by m ss

-- Copies of a machine, as one machine. The first of them says the opening, once. It is never finished.
abbrev pub split : {S : Type 0} → Automaton S → Automaton (List S)
split m = record {
  opening = λ ss. given_at 0 m.opening ss;
  wake = λ ss. due_moment (due_from 0 (map m.wake ss));
  finished = λ ss. false;
  actions = λ ss e words. actions_at m (route m ss e) ss e words;
  next = λ ss e words. next_at m (route m ss e) ss e words;
  handled = handled_by m;
}
