-- An event comes to a line of the engine.
use Rattle.std.proofs.Common.{◌≡◌, ℕ, zero, suc, ◌<◌, List, [], ◌∷◌, length, get_or, Box, Option, Some, refl, ap, sym, ◌∙◌, subst, arith}
use Rattle.std.specs.declared.alloc.Global.{Global}
use Rattle.std.specs.List.{slice_get}
use Rattle.std.proofs.Math.ListN.{set}
use Rattle.std.proofs.lemmas.List.{length-map}
use Rattle.dc_model.specs.Event.{Event}
use Rattle.dc_lookup.specs.Filter as model
use Rattle.dc_lookup.specs.Filter.{Filtered, unchanged, hear_step}
use Rattle.dc_filter.specs.declared.slot.Slot.{Slot}
use Rattle.dc_filter.specs.View.{slot_of, IsFit}
use Rattle.dc_filter.specs.Queue.{slots_of, AreFit}
use Rattle.dc_filter.specs.Lines.{line_step}
use Rattle.dc_filter.specs.Places.{event_place}
use Rattle.dc_filter.specs.Sifter.{Sifter, alone}
use Rattle.dc_filter.proofs.PlaceLemmas.{gone_at, within}

pub read_at : (q : List (Box Slot Global)) (i : ℕ) (b : Box Slot Global) (old : Slot) → i < length q → b ≡ get_or q i b → old ≡ b.value → slice_get (slots_of q) i ≡ Some (slot_of old)
read_at [] i b old l h e = absurd (omega (arith, l))
read_at (x ∷ xs) zero b old l h e = ap (λ (s : Slot). Some (slot_of s)) (ap (λ (s : Box Slot Global). s.value) (sym h) ∙ sym e)
read_at (x ∷ xs) (suc i) b old l h e = read_at xs i b old (omega (arith, l)) h e

pub fit_at : (q : List (Box Slot Global)) (i : ℕ) (b : Box Slot Global) (old : Slot) → i < length q → b ≡ get_or q i b → old ≡ b.value → AreFit q → IsFit old
fit_at [] i b old l h e f = absurd (omega (arith, l))
fit_at (x ∷ xs) zero b old l h e f = subst IsFit (ap (λ (s : Box Slot Global). s.value) (sym h) ∙ sym e) f.0
fit_at (x ∷ xs) (suc i) b old l h e f = fit_at xs i b old (omega (arith, l)) h e f.1

pub fit_with : (q : List (Box Slot Global)) (i : ℕ) (b : Box Slot Global) → AreFit q → IsFit b.value → AreFit (set q i b)
fit_with [] i b f k = tt
fit_with (x ∷ xs) zero b f k = (k, f.1)
fit_with (x ∷ xs) (suc i) b f k = (f.0, fit_with xs i b f.1 k)

slots_with : (q : List (Box Slot Global)) (i : ℕ) (b : Box Slot Global) → slots_of (set q i b) ≡ set (slots_of q) i (slot_of b.value)
slots_with [] i b = refl
slots_with (x ∷ xs) zero b = refl
slots_with (x ∷ xs) (suc i) b = ap (λ (l : List model.Slot). slot_of x.value ∷ l) (slots_with xs i b)

pub place_within : (s : Sifter) (e : Event) (q : List (Box Slot Global)) (o : Option ℕ) (i : ℕ) → s.queue ≡ slots_of q → o ≡ event_place e.kind e s.queue → o ≡ Some i → i < length q
place_within s e q o i is h n =
    let l = within s e o i h n in
    omega (arith, l, ap (λ (x : List model.Slot). length x) is, length-map q (λ (x : Box Slot Global). slot_of x.value))

-- The engine by its parts.
abbrev pub with_queue : Sifter → List model.Slot → ℕ → Sifter
with_queue s queue links = record s { queue = queue; links = links }

-- The line heard of the event.
pub heard_next : (s : Sifter) (e : Event) (draws : List ℕ) (q : List (Box Slot Global)) (i : ℕ) (old : Slot) (b : Box Slot Global) (links : ℕ) → s.queue ≡ slots_of q
    → hear_step (alone s) e draws ≡ gone_at s i (slot_of old) (line_step (slot_of old).at old.line.items s.servers s.links e draws)
    → slot_of b.value ≡ record { line = old.line.items; at = (line_step (slot_of old).at old.line.items s.servers s.links e draws).at }
    → links ≡ (line_step (slot_of old).at old.line.items s.servers s.links e draws).links
    → with_queue s (slots_of (set q i b)) links ≡ with_queue s (hear_step (alone s) e draws).filter.queue (hear_step (alone s) e draws).filter.links
heard_next s e draws q i old b links is step slot more =
    ap (λ (x : List model.Slot). with_queue s x links) (slots_with q i b ∙ ap (λ (x : List model.Slot). set x i (slot_of b.value)) (sym is) ∙ ap (λ (x : model.Slot). set s.queue i x) slot)
    ∙ ap (λ n. with_queue s (set s.queue i (record { line = old.line.items; at = (line_step (slot_of old).at old.line.items s.servers s.links e draws).at })) n) more
    ∙ ap (λ (x : Filtered). with_queue s x.filter.queue x.filter.links) (sym step)

pub unheard_next : (s : Sifter) (e : Event) (draws : List ℕ) → hear_step (alone s) e draws ≡ unchanged (alone s) → s ≡ with_queue s (hear_step (alone s) e draws).filter.queue (hear_step (alone s) e draws).filter.links
unheard_next s e draws h = ap (λ (x : Filtered). with_queue s x.filter.queue x.filter.links) (sym h)
