-- The next event of the world, by what it is.
use Rattle.std.proofs.Common.{◌≡◌, ℕ, ◌+◌, ◌%◌, ◌<◌, Bool, true, false, cond, eqb, List, [], ◌∷◌, drop, slice_get, refl, ap, ◌∙◌, arith, Option, Some, None}
use Rattle.std.proofs.lemmas.Bool.{eqb-true, eq-eqb}
use Rattle.dc_model.specs.Event.{Event}
use Rattle.dc_simulation.specs.World.{World, Given, client_asks, waited, from_queue, chosen, counted, next}
use Rattle.dc_sim.specs.Steps.{risen, IsRequest, IsTick}

-- Which of two comes
by_true : {A : Type 0} (b : Bool) (x y : A) → b ≡ true → cond b x y ≡ x
by_true b x y h = rw h refl

by_false : {A : Type 0} (b : Bool) (x y : A) → (b ≡ true → ⊥) → cond b x y ≡ y
by_false true x y h = absurd (h refl)
by_false false x y h = refl

-- One is left.
left : (o : Option ℕ) (w : World) (g : Given) → w.given < w.events → counted (chosen o (risen w)) ≡ g → next o w ≡ Some g
unfolding next
left o w g h is =
    by_false (eqb w.given w.events) None (Some (counted (chosen o (risen w)))) (λ e. let q : w.given ≡ w.events = eqb-true w.given w.events e in absurd (omega (arith, q, h)))
    ∙ ap (λ (x : Given). Some x) is

-- Each fourth is a request, and the others are those that wait.
fourth : (o : Option ℕ) (w : World) → w.given % 4 ≡ 0 → chosen o (risen w) ≡ client_asks (risen w)
fourth o w h = by_true (eqb (w.given % 4) 0) (client_asks (risen w)) (from_queue w.queue o (risen w)) (eq-eqb (w.given % 4) 0 h)

other : (o : Option ℕ) (w : World) → (w.given % 4 ≡ 0 → ⊥) → chosen o (risen w) ≡ from_queue w.queue o (risen w)
other o w h = by_false (eqb (w.given % 4) 0) (client_asks (risen w)) (from_queue w.queue o (risen w)) (λ e. h (eqb-true (w.given % 4) 0 e))

pub asks_fourth : (o : Option ℕ) (w v : World) (e : Event) → w.given < w.events → w.given % 4 ≡ 0 → IsRequest w e v → next o w ≡ Some (record { event = e; world = v })
asks_fourth o w v e h k is = left o w _ h (ap (λ (g : Given). counted g) (fourth o w k) ∙ is)

none_waits : (o : Option ℕ) (w : World) (q : List Event) → slice_get q 0 ≡ None → from_queue q o w ≡ waited o w
unfolding from_queue
none_waits o w [] h = refl
none_waits o w (e ∷ es) h = let bad : Some e ≡ None = h in cc

pub asks_unasked : (w v : World) (e : Event) → w.given < w.events → (w.given % 4 ≡ 0 → ⊥) → slice_get w.queue 0 ≡ None → IsRequest w e v → next None w ≡ Some (record { event = e; world = v })
unfolding waited
asks_unasked w v e h k q is =
    left None w _ h (ap (λ (g : Given). counted g) (other None w k ∙ none_waits None (risen w) w.queue q) ∙ is)

pub ticks_asked : (moment : ℕ) (w v : World) (e : Event) → w.given < w.events → (w.given % 4 ≡ 0 → ⊥) → slice_get w.queue 0 ≡ None → IsTick moment w e v
    → next (Some moment) w ≡ Some (record { event = e; world = v })
unfolding waited
ticks_asked moment w v e h k q is =
    left (Some moment) w _ h (ap (λ (g : Given). counted g) (other (Some moment) w k ∙ none_waits (Some moment) (risen w) w.queue q) ∙ is)

-- The first that waits.
abbrev pub brought : Event → World → Given
brought e w = record { event = record e { now = w.clock + 1 }; world = record w { clock = w.clock + 1; given = w.given + 1; queue = drop 1 w.queue } }

first_waits : (o : Option ℕ) (w : World) (q : List Event) (e : Event) → slice_get q 0 ≡ Some e → from_queue q o w ≡ record { event = record e { now = w.clock }; world = record w { queue = drop 1 q } }
unfolding from_queue
first_waits o w [] e h = let bad : None ≡ Some e = h in cc
first_waits o w (x ∷ es) e h = let same : x ≡ e = cc in rw same refl

pub brings_first : (o : Option ℕ) (w : World) (e : Event) → w.given < w.events → (w.given % 4 ≡ 0 → ⊥) → slice_get w.queue 0 ≡ Some e → next o w ≡ Some (brought e w)
brings_first o w e h k q =
    left o w _ h (ap (λ (g : Given). counted g) (other o w k ∙ first_waits o (risen w) w.queue e q))

-- Where none waits, none is taken.
pub none_taken : (q p : List Event) → slice_get q 0 ≡ None → p ≡ drop 1 q → p ≡ q
none_taken [] p h e = e
none_taken (x ∷ es) p h e = let bad : Some x ≡ None = h in cc
