-- What passes in a call of `serve` is in order: nothing is done behind a failed asking.
use Rattle.std.proofs.Common.{◌≡◌, ℕ, ◌+◌, Bool, false, ◌||◌, List, [], ◌∷◌, ◌++◌, refl, ap, ◌∙◌, Option}
use Rattle.dc_model.specs.Event.{Event, Action}
use Rattle.dc_engine.specs.Automaton.{Automaton, state_after}
use Rattle.dc_event.specs.History.{Exchange, done_all}
use Rattle.dc_script.specs.Order.{late, over_after, late-both, late_done, over_done}
use Rattle.dc_serve.specs.declared.Served.{Served}
use Rattle.dc_serve.specs.declared.Served.TheVariants.{Finished, Spent, Ended, Failed, Bad}
use Rattle.dc_serve.specs.Serve.{each_passes, last_passes, passes}

-- Actions, and then others.
behind_actions : (xs : List Action) (h : List Exchange) → late false h ≡ false → late false (done_all xs ++ h) ≡ false
behind_actions xs h e =
    late-both false (done_all xs) h ∙ ap (λ b. b || late (over_after false (done_all xs)) h) (late_done xs) ∙ ap (λ b. late b h) (over_done false xs) ∙ e

each_early : {S : Type 0} (m : Automaton S) (words : ℕ → List ℕ) (i : ℕ) (s : S) (es : List Event) → late false (each_passes m words i s es) ≡ false
each_early m words i s [] = refl
each_early m words i s (e ∷ es) =
    behind_actions (m.actions s e (words i)) (each_passes m words (i + 1) (m.next s e (words i)) es) (each_early m words (i + 1) (m.next s e (words i)) es)

last_early : (over : Bool) (answer : Served) (wake : Option ℕ) → late over (last_passes answer wake) ≡ false
last_early over Finished wake = refl
last_early over Spent wake = refl
last_early over Ended wake = refl
last_early over Failed wake = refl
last_early over (Bad line) wake = refl

pub passes_early : {S : Type 0} (m : Automaton S) (words : ℕ → List ℕ) (i : ℕ) (s : S) (events : List Event) (answer : Served) → late false (passes m words i s events answer) ≡ false
passes_early m words i s events answer =
    let first = done_all (m.opening s) ++ each_passes m words i s events in
    let wake = m.wake (state_after m words i s events) in
    late-both false first (last_passes answer wake)
    ∙ ap (λ b. b || late (over_after false first) (last_passes answer wake)) (behind_actions (m.opening s) (each_passes m words i s events) (each_early m words i s events))
    ∙ last_early (over_after false first) answer wake
