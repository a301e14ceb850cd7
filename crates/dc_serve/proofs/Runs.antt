-- A run with one more event.
use Rattle.std.proofs.Common.{◌≡◌, ℕ, ◌+◌, false, List, [], ◌∷◌, ◌++◌, length, refl, ap, sym, ◌∙◌, arith, add-zero, append_assoc, length-append, subst}
use Rattle.std.proofs.lemmas.List.{append-nil}
use Rattle.std.specs.declared.option.Option.{Option}
use Rattle.std.proofs.lemmas.List.Elements.{All-nil, All-cons, All-append}
use Rattle.dc_model.specs.Event.{Event, IsEvent, Action}
use Rattle.dc_engine.specs.Automaton.{Automaton, state_after, actions_of, wakes_before, GoesOn}
use Rattle.dc_event.specs.History.{Exchange, asked, gave, done_all, events_in, actions_in, events-both, actions-both, events-done, actions-done}
use Rattle.dc_serve.specs.declared.Served.{Served}
use Rattle.dc_serve.specs.declared.Served.TheVariants.{Finished, Spent, Ended, Failed, Bad}
use Rattle.dc_serve.specs.Serve.{SoFar, Ran, Ends, each_passes, last_passes, passes}

module _ {S : Type 0} (m : Automaton S) (words : ℕ → List ℕ) where
  pub state_more : (i : ℕ) (s : S) (es : List Event) (e : Event) → state_after m words i s (es ++ e ∷ []) ≡ m.next (state_after m words i s es) e (words (i + length es))
  state_more i s [] e = rw add-zero refl
  state_more i s (x ∷ es) e =
      let q : i + 1 + length es ≡ i + length (x ∷ es) = omega arith in
      rw (← q) (state_more (i + 1) (m.next s x (words i)) es e)

  pub goes_more : (i : ℕ) (s : S) (es : List Event) (e : Event) → GoesOn m words i s es → m.finished (state_after m words i s es) ≡ false → GoesOn m words i s (es ++ e ∷ [])
  goes_more i s [] e on last = (last, tt)
  goes_more i s (x ∷ es) e on last = (on.0, goes_more (i + 1) (m.next s x (words i)) es e on.1 last)

  -- What passes at one event, in this state and with these words.
  abbrev pub one_passes : S → Event → List ℕ → List Exchange
  one_passes s e drawn = asked (m.wake s) (gave e) ∷ done_all (m.actions s e drawn)

  pub passes_more : (i : ℕ) (s : S) (es : List Event) (e : Event)
      → each_passes m words i s (es ++ e ∷ []) ≡ each_passes m words i s es ++ one_passes (state_after m words i s es) e (words (i + length es))
  passes_more i s [] e =
      let none : i ≡ i + 0 = omega arith in
      ap (λ l. asked (m.wake s) (gave e) ∷ l) (append-nil (done_all (m.actions s e (words i)))) ∙ ap (λ k. one_passes s e (words k)) none
  passes_more i s (x ∷ es) e =
      let next = m.next s x (words i) in
      let now = done_all (m.actions s x (words i)) in
      let behind = each_passes m words (i + 1) next es in
      let number : i + 1 + length es ≡ i + length (x ∷ es) = omega arith in
      ap (λ l. asked (m.wake s) (gave x) ∷ (now ++ l)) (passes_more (i + 1) next es e)
      ∙ ap (λ l. asked (m.wake s) (gave x) ∷ l) (sym (append_assoc now behind (one_passes (state_after m words (i + 1) next es) e (words (i + 1 + length es)))))
      ∙ ap (λ k. asked (m.wake s) (gave x) ∷ ((now ++ behind) ++ one_passes (state_after m words (i + 1) next es) e (words k))) number

module _ {W S : Type 0} (history : W → List Exchange → W → Type 0)
    (both : (a b c : W) (xs ys : List Exchange) → history a xs b → history b ys c → history a (xs ++ ys) c)
    (m : Automaton S) (words : ℕ → List ℕ) (first : ℕ) where
  -- Behind the launch.
  pub begins : {start now : S} {old new : W} → history old (done_all (m.opening start)) new → now ≡ start → SoFar history m words first start now old new 0 []
  begins {start} {now} {old} {new} opened same = record {
    passed = subst (λ l. history old l new) (sym (append-nil (done_all (m.opening start)))) opened;
    bounded = All-nil IsEvent;
    state = same;
    went_on = tt;
    count = refl;
    counted = rw (same, add-zero) refl;
  }

  -- The loop ended so, behind what passed last.
  pub finishes : {start now : S} {old mid new : W} {handled : ℕ} (limit : ℕ) (answer : Served) (events : List Event)
      → SoFar history m words first start now old mid handled events
      → history mid (last_passes answer (m.wake now)) new
      → Ends answer (m.finished now) (length events) limit
      → history old (passes m words first start events answer) new × Ran m words first start now limit events answer
  finishes {start} {now} {old} {mid} {new} limit answer events so last ends = (
    both old mid new (done_all (m.opening start) ++ each_passes m words first start events) _ so.passed (subst (λ s. history mid (last_passes answer (m.wake s)) new) so.state last),
    record { bounded = so.bounded; state = so.state; went_on = so.went_on; ends = ends },
  )

  -- One more event was handled.
  pub more : {start now later : S} {old mid new : W} {handled : ℕ} (events : List Event) (h : Event) (drawn : List ℕ)
      → SoFar history m words first start now old mid handled events
      → m.finished now ≡ false
      → IsEvent h
      → history mid (one_passes m words now h drawn) new
      → drawn ≡ words (first + length events)
      → later ≡ m.next now h drawn
      → m.handled later ≡ m.handled now + 1
      → SoFar history m words first start later old new (handled + 1) (events ++ h ∷ [])
  more {start} {now} {later} {old} {mid} {new} {handled} events h drawn so on bounds passed is next counted =
      let before = each_passes m words first start events in
      let one : one_passes m words now h drawn ≡ one_passes m words (state_after m words first start events) h (words (first + length events)) =
      ap (λ s. one_passes m words s h drawn) so.state ∙ ap (λ l. one_passes m words (state_after m words first start events) h l) is in
      let all : (done_all (m.opening start) ++ before) ++ one_passes m words now h drawn ≡ done_all (m.opening start) ++ each_passes m words first start (events ++ h ∷ []) =
      append_assoc (done_all (m.opening start)) before (one_passes m words now h drawn)
      ∙ ap (λ l. done_all (m.opening start) ++ (before ++ l)) one ∙ ap (λ l. done_all (m.opening start) ++ l) (sym (passes_more m words first start events h)) in
      record {
        passed = subst (λ l. history old l new) all (both old mid new (done_all (m.opening start) ++ before) (one_passes m words now h drawn) so.passed passed);
        bounded = All-append IsEvent events (h ∷ []) so.bounded (All-cons IsEvent h [] bounds (All-nil IsEvent));
        state = next ∙ rw (state_more m words first start events h, ← so.state, ← is) refl;
        went_on = goes_more m words first start events h so.went_on (rw (← so.state) on);
        count = rw length-append (omega (arith, so.count));
        counted = rw length-append (omega (arith, so.counted));
      }

-- What a call hands out and does, by kinds.

module _ {S : Type 0} (m : Automaton S) (words : ℕ → List ℕ) where
  events_each : (i : ℕ) (s : S) (es : List Event) → events_in (each_passes m words i s es) ≡ es
  events_each i s [] = refl
  events_each i s (e ∷ es) =
      let now = done_all (m.actions s e (words i)) in
      let behind = each_passes m words (i + 1) (m.next s e (words i)) es in
      ap (λ l. e ∷ l) (events-both now behind ∙ ap (λ l. l ++ events_in behind) (events-done (m.actions s e (words i))) ∙ events_each (i + 1) (m.next s e (words i)) es)

  actions_each : (i : ℕ) (s : S) (es : List Event) → actions_in (each_passes m words i s es) ≡ actions_of m words i s es
  actions_each i s [] = refl
  actions_each i s (e ∷ es) =
      let now = done_all (m.actions s e (words i)) in
      let behind = each_passes m words (i + 1) (m.next s e (words i)) es in
      actions-both now behind ∙ ap (λ l. l ++ actions_in behind) (actions-done (m.actions s e (words i)))
      ∙ ap (λ l. m.actions s e (words i) ++ l) (actions_each (i + 1) (m.next s e (words i)) es)

-- No event comes last, and nothing is done there.
events_last : (answer : Served) (wake : Option ℕ) → events_in (last_passes answer wake) ≡ []
events_last Finished wake = refl
events_last Spent wake = refl
events_last Ended wake = refl
events_last Failed wake = refl
events_last (Bad line) wake = refl

actions_last : (answer : Served) (wake : Option ℕ) → actions_in (last_passes answer wake) ≡ []
actions_last Finished wake = refl
actions_last Spent wake = refl
actions_last Ended wake = refl
actions_last Failed wake = refl
actions_last (Bad line) wake = refl

module _ {S : Type 0} (m : Automaton S) (words : ℕ → List ℕ) (i : ℕ) (s : S) (events : List Event) (answer : Served) where
  -- The events that were handed out are those that were handled.
  pub passes_events : events_in (passes m words i s events answer) ≡ events
  passes_events =
      let opens = done_all (m.opening s) in
      let each = each_passes m words i s events in
      let last = last_passes answer (m.wake (state_after m words i s events)) in
      events-both (opens ++ each) last ∙ ap (λ l. events_in (opens ++ each) ++ l) (events_last answer (m.wake (state_after m words i s events))) ∙ append-nil (events_in (opens ++ each))
      ∙ events-both opens each ∙ ap (λ l. l ++ events_in each) (events-done (m.opening s)) ∙ events_each m words i s events

  -- What was done is the opening and the actions of each event.
  pub passes_actions : actions_in (passes m words i s events answer) ≡ m.opening s ++ actions_of m words i s events
  passes_actions =
      let opens = done_all (m.opening s) in
      let each = each_passes m words i s events in
      let last = last_passes answer (m.wake (state_after m words i s events)) in
      actions-both (opens ++ each) last ∙ ap (λ l. actions_in (opens ++ each) ++ l) (actions_last answer (m.wake (state_after m words i s events))) ∙ append-nil (actions_in (opens ++ each))
      ∙ actions-both opens each ∙ ap (λ l. l ++ actions_in each) (actions-done (m.opening s)) ∙ ap (λ l. m.opening s ++ l) (actions_each m words i s events)
