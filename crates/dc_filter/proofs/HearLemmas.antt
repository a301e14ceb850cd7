-- What each event makes of a line.
use Rattle.std.proofs.Common.{◌≡◌, ℕ, ◌+◌, ◌≤◌, ◌∷◌, [], List, inl, inr, Option, Some, ap, sym, ◌∙◌, arith}
use Rattle.dc_model.specs.Name.{reverse_name}
use Rattle.dc_model.specs.Event.{Event}
use Rattle.dc_model.specs.Transmission.{Attempt, Progress, waiting, packet, failed, no_port, opening_of, after_event}
use Rattle.dc_machine.proofs.Asking.{LinkedFrom, event_linked}
use Rattle.dc_transmit.specs.Attempts.{occasion}
use Rattle.dc_transmit.specs.Standing.{followed}
use Rattle.dc_lookup.specs.Filter.{Progressed, fresh, asked, done}
use Rattle.dc_filter.specs.declared.slot.Stage.{Stage}
use Rattle.dc_filter.specs.declared.slot.Stage.TheVariants.{Fresh, Asked, Done}
use Rattle.dc_filter.specs.View.{at_of, asked_by}
use Rattle.dc_filter.specs.Lines.{Gone, line_step, first_attempt, gone_by}

pub fresh_step : (stage : Stage) (addr : List ℕ) (attempt : Option Attempt) (text line : List ℕ) (servers : List (List ℕ)) (links : ℕ) (e : Event) (draws : List ℕ) → stage ≡ Fresh addr
    → line_step (at_of stage attempt text) line servers links e draws
    ≡ record { at = asked (first_attempt (reverse_name addr) servers links e draws); actions = opening_of (first_attempt (reverse_name addr) servers links e draws) ∷ []; links = links + 1 }
unfolding line_step
fresh_step stage addr attempt text line servers links e draws h = ap (λ (s : Stage). line_step (at_of s attempt text) line servers links e draws) h

follow_by : (attempt : Option Attempt) (text line : List ℕ) (servers : List (List ℕ)) (links : ℕ) (e : Event) (draws : List ℕ) (a : Attempt) → attempt ≡ Some a
    → line_step (asked_by attempt) line servers links e draws ≡ gone_by (followed attempt e (occasion e.now draws links)) line
unfolding line_step followed
follow_by attempt text line servers links e draws a h =
    ap (λ x. line_step (asked_by x) line servers links e draws) h ∙ ap (λ x. gone_by (followed x e (occasion e.now draws links)) line) (sym h)

pub follow_step : (stage : Stage) (attempt : Option Attempt) (text line : List ℕ) (servers : List (List ℕ)) (links : ℕ) (e : Event) (draws : List ℕ) → stage ≡ Asked
    → (a : Attempt) → attempt ≡ Some a
    → line_step (at_of stage attempt text) line servers links e draws ≡ gone_by (followed attempt e (occasion e.now draws links)) line
follow_step stage attempt text line servers links e draws h a f =
    ap (λ (s : Stage). line_step (at_of s attempt text) line servers links e draws) h ∙ follow_by attempt text line servers links e draws a f

pub done_step : (stage : Stage) (attempt : Option Attempt) (text line : List ℕ) (servers : List (List ℕ)) (links : ℕ) (e : Event) (draws : List ℕ) → stage ≡ Done
    → line_step (at_of stage attempt text) line servers links e draws ≡ record { at = at_of stage attempt text; actions = []; links = links }
unfolding line_step
done_step stage attempt text line servers links e draws h =
    ap (λ (s : Stage). line_step (at_of s attempt text) line servers links e draws) h
    ∙ ap (λ (s : Stage). let g : Gone = record { at = at_of s attempt text; actions = []; links = links } in g) (sym h)

-- It used one link more at most.
linked_few : (old k : ℕ) (p : Progress) (n : ℕ) → LinkedFrom old k p n → n ≤ k + 1
unfolding LinkedFrom
linked_few old k (waiting a) n (inl h) = omega (arith, h.1)
linked_few old k (waiting a) n (inr h) = omega (arith, h.1)
linked_few old k (packet p) n h = omega (arith, h)
linked_few old k failed n h = omega (arith, h)
linked_few old k no_port n h = omega (arith, h)

pub few : (at : Progressed) (line : List ℕ) (servers : List (List ℕ)) (links : ℕ) (e : Event) (draws : List ℕ) → (line_step at line servers links e draws).links ≤ links + 1
unfolding line_step
few (fresh n) line servers links e draws = omega arith
few (asked a) line servers links e draws =
    let o = occasion e.now draws links in
    linked_few a.link links (after_event e a o).progress (after_event e a o).links (event_linked e a o)
few (done text) line servers links e draws = omega arith
