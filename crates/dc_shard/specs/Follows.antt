-- What passes between a world and its user, as a machine prescribes it.
use Rattle.std.specs.Prelude.{◌≡◌, ℕ, ◌+◌, List, [], ◌∷◌, ◌++◌}
use Rattle.dc_model.specs.Event.{Event, Action}
use Rattle.dc_engine.specs.Automaton.{Automaton}
use Rattle.dc_event.specs.History.{gave, ended, failed, bad, Exchange, listened, asked, gathered, did}

-- A point of a run: how many events were handed out, the state behind them, and the actions that are still to be done.
pub record Point (S : Type 0) : Type 0 where
  pub number : ℕ
  pub state : S
  pub due : List Action

-- The point behind one more event: its actions are to be done behind those that are due.
abbrev pub heard : {S : Type 0} → Automaton S → (ℕ → List ℕ) → Point S → Event → Point S
heard m words p e = record { number = p.number + 1; state = m.next p.state e (words p.number); due = p.due ++ m.actions p.state e (words p.number) }

-- The point behind more events.
abbrev pub heard_all : {S : Type 0} → Automaton S → (ℕ → List ℕ) → Point S → List Event → Point S
heard_all m words p [] = p
heard_all m words p (e ∷ es) = heard_all m words (heard m words p e) es

-- A machine comes from one point to another while this passes:
--   the world is asked for an event only where no action is due, with the machine's wake, and gives one;
--   further events are gathered at any time;
--   the next action that is done is the first that is due.
unfoldable pub Follows : {S : Type 0} → Automaton S → (ℕ → List ℕ) → Point S → List Exchange → Point S → Type 0
Follows m words p [] q = q ≡ p
Follows m words p (listened addr send_from well ∷ h) q = ⊥
Follows m words p (asked wake (gave e) ∷ h) q = (p.due ≡ []) × ((wake ≡ m.wake p.state) × Follows m words (heard m words p e) h q)
Follows m words p (asked wake ended ∷ h) q = ⊥
Follows m words p (asked wake failed ∷ h) q = ⊥
Follows m words p (asked wake (bad line) ∷ h) q = ⊥
Follows m words p (gathered e ∷ h) q = Follows m words (heard m words p e) h q
Follows {S} m words p (did x ∷ h) q = (rest : List Action) × ((p.due ≡ x ∷ rest) × Follows m words (record p { due = rest }) h q)
