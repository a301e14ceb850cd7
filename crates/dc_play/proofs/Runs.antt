-- The actions of an engine over the events of a script.
use Rattle.std.proofs.Common.{◌≡◌, ℕ, ◌+◌, List, [], ◌∷◌, ◌++◌, length, ap, sym, ◌∙◌, arith, append_assoc}
use Rattle.dc_model.specs.Draws.{draws_of}
use Rattle.dc_model.specs.Event.{Event, Action}
use Rattle.dc_draws.specs.Drawn.{Drawn}
use Rattle.dc_engine.specs.Automaton.{Automaton, state_after, actions_of}
use Rattle.dc_event.specs.Told.{BeginsWith}
use Rattle.dc_script.specs.Text.{text_of}
use Rattle.dc_script.specs.Written.{text_of-append}
use Rattle.dc_play.specs.Playing.{run_of}

-- The actions of these events, and then those of others.
pub actions-append : {S : Type 0} (m : Automaton S) (words : ℕ → List ℕ) (i : ℕ) (s : S) (xs ys : List Event)
    → actions_of m words i s (xs ++ ys) ≡ actions_of m words i s xs ++ actions_of m words (i + length xs) (state_after m words i s xs) ys
actions-append m words i s [] ys = let none : i ≡ i + 0 = omega arith in ap (λ k. actions_of m words k s ys) none
actions-append m words i s (e ∷ xs) ys =
    let next = m.next s e (words i) in
    let now = m.actions s e (words i) in
    let behind = actions_of m words (i + 1) next xs in
    let number : i + 1 + length xs ≡ i + length (e ∷ xs) = omega arith in
    ap (λ l. now ++ l) (actions-append m words (i + 1) next xs ys)
    ∙ sym (append_assoc now behind (actions_of m words (i + 1 + length xs) (state_after m words (i + 1) next xs) ys))
    ∙ ap (λ k. (now ++ behind) ++ actions_of m words k (state_after m words (i + 1) next xs) ys) number

-- The text of a run begins with that of the first events.
abbrev pub Fronts : (List Event → List Action) → Type 0
Fronts run = (xs ys : List Event) → BeginsWith (text_of (run xs)) (text_of (run (xs ++ ys)))

pub run_fronts : {S : Type 0} (m : Automaton S) (words : ℕ → List ℕ) (s : S) → Fronts (run_of m words s)
run_fronts m words s = λ xs ys.
    let more = actions_of m words (0 + length xs) (state_after m words 0 s xs) ys in
    let first = actions_of m words 0 s xs in
    let all : m.opening s ++ actions_of m words 0 s (xs ++ ys) ≡ (m.opening s ++ first) ++ more =
    ap (λ l. m.opening s ++ l) (actions-append m words 0 s xs ys) ∙ sym (append_assoc (m.opening s) first more) in
    (text_of more, ap text_of all ∙ text_of-append (m.opening s ++ first) more)

-- A run with the words of a seed, from the first on.
pub run_drawn : {S : Type 0} (m : Automaton S) (s : S) (seed : List ℕ) (drawn : Drawn) (events : List Event) → drawn ≡ record { seed = seed; given = 0 }
    → m.opening s ++ actions_of m (draws_of drawn.seed) drawn.given s events ≡ run_of m (draws_of seed) s events
run_drawn m s seed drawn events e = ap (λ d. m.opening s ++ actions_of m (draws_of d.seed) d.given s events) e
