-- What passes between a world and its user, in the order in which it passes.
use Rattle.std.specs.Prelude.{◌≡◌, ℕ, Bool, true, false, List, [], ◌∷◌, ◌++◌, map, flat_map, refl}
use Rattle.std.proofs.Common.{ap}
use Rattle.std.proofs.lemmas.Grind.{flat_map-append}
use Rattle.std.specs.declared.option.Option.{Option}
use Rattle.std.specs.declared.option.Option.TheVariants.{Some}
use Rattle.dc_model.specs.Event.{Event, Action}
use Rattle.dc_event.specs.declared.answers.Heard.{Heard}
use Rattle.dc_event.specs.declared.answers.Heard.TheVariants as heard
use Rattle.dc_event.specs.Answers.{heard_by}

-- What the world said when it was asked for an event: this one, or none.
pub data Answer : Type 0 where
  gave : Event → Answer
  ended : Answer
  failed : Answer
  bad : ℕ → Answer

-- One exchange.
pub data Exchange : Type 0 where
  -- it was asked to listen on the first address and to send from the second, and does so or failed
  listened : List ℕ → List ℕ → Bool → Exchange
  -- it was asked for an event, with this wake, and answered so
  asked : Option ℕ → Answer → Exchange
  -- it gave one more event, that had come already
  gathered : Event → Exchange
  -- this was done
  did : Action → Exchange

-- The answer that a `Heard` stands for, with this in the inbox.
abbrev pub answer_by : Heard → Event → Answer
answer_by heard.Event e = gave e
answer_by heard.End e = ended
answer_by heard.Failed e = failed
answer_by (heard.Bad line) e = bad line

-- The `Heard` of an answer.
abbrev pub heard_of : Answer → Heard
heard_of (gave e) = heard.Event
heard_of ended = heard.End
heard_of failed = heard.Failed
heard_of (bad line) = heard.Bad line

-- What a call of `more` passes, with this in the inbox.
abbrev pub gathered_by : Bool → Event → List Exchange
gathered_by true e = gathered e ∷ []
gathered_by false e = []

-- What one exchange has of each kind.

abbrev pub event_by : Answer → List Event
event_by (gave e) = e ∷ []
event_by ended = []
event_by failed = []
event_by (bad line) = []

abbrev pub event_in : Exchange → List Event
event_in (listened addr send_from well) = []
event_in (asked wake a) = event_by a
event_in (gathered e) = e ∷ []
event_in (did x) = []

abbrev pub wake_in : Exchange → List (Option ℕ)
wake_in (listened addr send_from well) = []
wake_in (asked wake a) = wake ∷ []
wake_in (gathered e) = []
wake_in (did x) = []

abbrev pub action_in : Exchange → List Action
action_in (listened addr send_from well) = []
action_in (asked wake a) = []
action_in (gathered e) = []
action_in (did x) = x ∷ []

-- The events that were handed out, the wakes that were given, and the actions that were done, each in order.

abbrev pub events_in : List Exchange → List Event
events_in h = flat_map event_in h

abbrev pub wakes_in : List Exchange → List (Option ℕ)
wakes_in h = flat_map wake_in h

abbrev pub actions_in : List Exchange → List Action
actions_in h = flat_map action_in h

-- What `next` answered last, behind one exchange and behind a history, where it had answered so before.

abbrev pub last_with : Option Heard → Exchange → Option Heard
last_with before (listened addr send_from well) = before
last_with before (asked wake a) = Some (heard_of a)
last_with before (gathered e) = before
last_with before (did x) = before

abbrev pub last_in : Option Heard → List Exchange → Option Heard
last_in before [] = before
last_in before (x ∷ h) = last_in (last_with before x) h

-- The addresses of the last call of `listen` that went well, the same way.

abbrev pub kept_by : Bool → List ℕ × List ℕ → Option (List ℕ × List ℕ) → Option (List ℕ × List ℕ)
kept_by true addresses before = Some addresses
kept_by false addresses before = before

abbrev pub kept_with : Option (List ℕ × List ℕ) → Exchange → Option (List ℕ × List ℕ)
kept_with before (listened addr send_from well) = kept_by well (addr, send_from) before
kept_with before (asked wake a) = before
kept_with before (gathered e) = before
kept_with before (did x) = before

abbrev pub kept_in : Option (List ℕ × List ℕ) → List Exchange → Option (List ℕ × List ℕ)
kept_in before [] = before
kept_in before (x ∷ h) = kept_in (kept_with before x) h

-- The history of actions alone.
abbrev pub done_all : List Action → List Exchange
done_all xs = map did xs

-- What one call of `next` adds to the events and to the answers.

pub events_asked : (wake : Option ℕ) (a : Heard) (e : Event) → heard_by a e ≡ events_in (asked wake (answer_by a e) ∷ [])
events_asked wake heard.Event e = refl
events_asked wake heard.End e = refl
events_asked wake heard.Failed e = refl
events_asked wake (heard.Bad line) e = refl

pub answered_by : (a : Heard) (e : Event) → a ≡ heard_of (answer_by a e)
answered_by heard.Event e = refl
answered_by heard.End e = refl
answered_by heard.Failed e = refl
answered_by (heard.Bad line) e = refl

-- Laws: of two histories one behind the other, and of actions alone.

pub events-both : (g h : List Exchange) → events_in (g ++ h) ≡ events_in g ++ events_in h
events-both g h = flat_map-append event_in g h

pub wakes-both : (g h : List Exchange) → wakes_in (g ++ h) ≡ wakes_in g ++ wakes_in h
wakes-both g h = flat_map-append wake_in g h

pub actions-both : (g h : List Exchange) → actions_in (g ++ h) ≡ actions_in g ++ actions_in h
actions-both g h = flat_map-append action_in g h

pub last-both : (before : Option Heard) (g h : List Exchange) → last_in before (g ++ h) ≡ last_in (last_in before g) h
last-both before [] h = refl
last-both before (x ∷ g) h = last-both (last_with before x) g h

pub kept-both : (before : Option (List ℕ × List ℕ)) (g h : List Exchange) → kept_in before (g ++ h) ≡ kept_in (kept_in before g) h
kept-both before [] h = refl
kept-both before (x ∷ g) h = kept-both (kept_with before x) g h

pub events-done : (xs : List Action) → events_in (done_all xs) ≡ []
events-done [] = refl
events-done (x ∷ xs) = events-done xs

pub wakes-done : (xs : List Action) → wakes_in (done_all xs) ≡ []
wakes-done [] = refl
wakes-done (x ∷ xs) = wakes-done xs

pub actions-done : (xs : List Action) → actions_in (done_all xs) ≡ xs
actions-done [] = refl
actions-done (x ∷ xs) = ap (λ l. x ∷ l) (actions-done xs)

pub last-done : (before : Option Heard) (xs : List Action) → last_in before (done_all xs) ≡ before
last-done before [] = refl
last-done before (x ∷ xs) = last-done before xs

pub kept-done : (before : Option (List ℕ × List ℕ)) (xs : List Action) → kept_in before (done_all xs) ≡ before
kept-done before [] = refl
kept-done before (x ∷ xs) = kept-done before xs
