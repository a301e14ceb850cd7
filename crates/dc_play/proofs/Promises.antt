-- What is promised of a script, and what each answer of the loop keeps of it.
use Rattle.std.proofs.Common.{◌≡◌, ℕ, suc, ◌+◌, ◌-◌, ◌<◌, ◌≤◌, Bool, true, false, not, leb, List, [], ◌∷◌, ◌++◌, length, take, refl, ap, sym, ◌∙◌, arith, Option, Some, None, append_assoc, length-append}
use Rattle.std.proofs.lemmas.List.{append-nil}
use Rattle.std.proofs.lemmas.Bool.{le-leb, lt-leb}
use Rattle.dc_model.specs.Event.{Event, Action}
use Rattle.dc_event.specs.Told.{BeginsWith}
use Rattle.dc_script.specs.Script.{Said, bad_at}
use Rattle.dc_script.specs.Read.{after_events}
use Rattle.dc_script.specs.Text.{text_of}
use Rattle.dc_script.specs.Written.{Written}
use Rattle.dc_serve.specs.declared.Served.{Served}
use Rattle.dc_serve.specs.declared.Served.TheVariants as served
use Rattle.dc_play.specs.declared.played.Played.TheVariants.{Spent}
use Rattle.dc_play.specs.Playing as playing
use Rattle.dc_play.specs.Playing.{Outcome, outcome_of, Keeps, answer_from}
use Rattle.dc_play.proofs.Runs.{Fronts}

take_past : (xs ys : List Event) (n : ℕ) → take (length xs + n) (xs ++ ys) ≡ xs ++ take n ys
take_past [] ys n = let none : 0 + n ≡ n = omega arith in ap (λ m. take m ys) none
take_past (x ∷ xs) ys n =
    let more : length (x ∷ xs) + n ≡ suc (length xs + n) = omega arith in
    ap (λ m. take m (x ∷ (xs ++ ys))) more ∙ ap (λ l. x ∷ l) (take_past xs ys n)

take_front : (limit : ℕ) (xs ys : List Event) → length xs ≤ limit → take limit (xs ++ ys) ≡ xs ++ take (limit - length xs) ys
take_front limit xs ys h =
    let all : limit ≡ length xs + (limit - length xs) = omega (arith, h) in
    ap (λ n. take n (xs ++ ys)) all ∙ take_past xs ys (limit - length xs)

take_same : (limit : ℕ) (xs ys : List Event) → length xs ≡ limit → take limit (xs ++ ys) ≡ xs
take_same limit xs ys e =
    let none : limit ≡ length xs + 0 = omega (arith, e) in
    ap (λ n. take n (xs ++ ys)) none ∙ take_past xs ys 0 ∙ append-nil xs

-- What is promised behind these events

spent : (run : List Event → List Action) (limit : ℕ) (xs : List Event) (s : Said) → length xs ≡ limit
    → outcome_of run limit (after_events xs s) ≡ record { answer = Spent; text = text_of (run xs) }
unfolding outcome_of
spent run limit xs s e =
    let within : leb limit (length (xs ++ s.events)) ≡ true = le-leb limit (length (xs ++ s.events)) (omega (arith, length-append xs s.events, e)) in
    let front : take limit (xs ++ s.events) ≡ xs = take_same limit xs s.events e in
    rw (within, front) refl

over : (run : List Event → List Action) (limit : ℕ) (xs : List Event) (bad : Option ℕ) → length xs < limit
    → outcome_of run limit (after_events xs (record { events = []; bad = bad })) ≡ record { answer = playing.at_end bad; text = text_of (run xs) }
unfolding outcome_of
over run limit xs bad h =
    let beyond : leb limit (length xs) ≡ false = lt-leb limit (length xs) h in
    rw (append-nil, beyond) refl

front_by : (run : List Event → List Action) → Fronts run → (limit : ℕ) (xs : List Event) (s : Said) (b : Bool) → leb limit (length (xs ++ s.events)) ≡ b → length xs ≤ limit
    → BeginsWith (text_of (run xs)) (outcome_of run limit (after_events xs s)).text
unfolding outcome_of
front_by run fronts limit xs s false e h = rw e (fronts xs s.events)
front_by run fronts limit xs s true e h =
    let more : take limit (xs ++ s.events) ≡ xs ++ take (limit - length xs) s.events = take_front limit xs s.events h in
    rw (e, more) (fronts xs (take (limit - length xs) s.events))

-- The text of the events that were handled is a front of what is promised.
front_text : (run : List Event → List Action) → Fronts run → (limit : ℕ) (xs : List Event) (s : Said) → length xs ≤ limit
    → BeginsWith (text_of (run xs)) (outcome_of run limit (after_events xs s)).text
front_text run fronts limit xs s h = front_by run fronts limit xs s (leb limit (length (xs ++ s.events))) refl h

-- What each answer of the loop says of the events and of what is left.
abbrev pub Stopped : Served → (count limit : ℕ) → Said → Type 0
Stopped served.Finished count limit left = ⊥
Stopped served.Spent count limit left = count ≡ limit
Stopped served.Ended count limit left = (count < limit) × (left ≡ record { events = []; bad = None })
Stopped served.Failed count limit left = count < limit
Stopped (served.Bad k) count limit left = (count < limit) × (left ≡ bad_at k)

within : (answer : Served) (count limit : ℕ) (left : Said) → Stopped answer count limit left → count ≤ limit
within served.Finished count limit left h = absurd h
within served.Spent count limit left h = omega (arith, h)
within served.Ended count limit left h = omega (arith, h.0)
within served.Failed count limit left h = omega (arith, h)
within (served.Bad k) count limit left h = omega (arith, h.0)

-- What was written of a text: all of it, or a front where a write failed.
abbrev pub Front : (failed : Bool) → (front text : List ℕ) → Type 0
Front false front text = front ≡ text
Front true front text = BeginsWith front text

pub front_of : {K : Type 0} (gained : K → List ℕ → K → Type 0) (failed : Bool) (old new : K) (text : List ℕ) → Written gained false failed old text new
    → (front : List ℕ) × gained old front new × Front failed front text
front_of gained false old new text w = (text, w, refl)
front_of gained true old new text w = (w.0, w.2, w.1)

longer : (front text whole : List ℕ) → BeginsWith text whole → BeginsWith front text → BeginsWith front whole
longer front text whole b g = (g.0 ++ b.0, b.1 ∙ ap (λ l. l ++ b.0) g.1 ∙ append_assoc front g.0 b.0)

fully : (front : List ℕ) (promised told : Outcome) → promised ≡ told → front ≡ told.text → (promised.answer ≡ told.answer) × (front ≡ promised.text)
fully front promised told e g = (ap (λ p. p.answer) e, g ∙ sym (ap (λ p. p.text) e))

all_written : (run : List Event → List Action) (answer : Served) (whole front : List ℕ) (limit : ℕ) (xs : List Event) (left : Said) → Stopped answer (length xs) limit left
    → (answer ≡ served.Failed → whole ≡ text_of (run xs)) → front ≡ text_of (run xs) → Keeps (outcome_of run limit (after_events xs left)) whole front (answer_from answer true)
all_written run served.Finished whole front limit xs left h w g = absurd h
all_written run served.Spent whole front limit xs left h w g = fully front _ _ (spent run limit xs left h) g
all_written run served.Ended whole front limit xs left h w g =
    fully front _ _ (ap (λ s. outcome_of run limit (after_events xs s)) h.1 ∙ over run limit xs None h.0) g
all_written run served.Failed whole front limit xs left h w g = g ∙ sym (w refl)
all_written run (served.Bad k) whole front limit xs left h w g =
    fully front _ _ (ap (λ s. outcome_of run limit (after_events xs s)) h.1 ∙ over run limit xs (Some k) h.0) g

-- What was written keeps the promise.
pub keeps : (run : List Event → List Action) → Fronts run → (answer : Served) (failed : Bool) (whole front : List ℕ) (limit : ℕ) (xs : List Event) (left : Said)
    → Stopped answer (length xs) limit left → (answer ≡ served.Failed → failed ≡ false → whole ≡ text_of (run xs)) → Front failed front (text_of (run xs))
    → Keeps (outcome_of run limit (after_events xs left)) whole front (answer_from answer (not failed))
keeps run fronts answer false whole front limit xs left h w g = all_written run answer whole front limit xs left h (λ e. w e refl) g
keeps run fronts answer true whole front limit xs left h w g = longer front _ _ (front_text run fronts limit xs left (within answer (length xs) limit left h)) g

-- Two runs that do the same at all events come to the same.
pub outcome_same : (run other : List Event → List Action) → ((events : List Event) → run events ≡ other events) → (limit : ℕ) (said : Said)
    → outcome_of run limit said ≡ outcome_of other limit said
unfolding outcome_of
outcome_same run other same limit said = rw (same (take limit said.events), same said.events) refl
