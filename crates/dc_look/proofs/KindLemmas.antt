-- The first of some types of which the cache knows.
use Rattle.std.proofs.Common.{◌≡◌, ℕ, ◌+◌, ◌<◌, ◌≤◌, List, length, drop, slice_index_or, Option, Some, None, refl, ap, sym, ◌∙◌, add-one, drop-cons}
use Rattle.std.specs.Option.{option_or}
use Rattle.std.proofs.lemmas.List.{drop_all}
use Rattle.dc_machine.specs.Turn.{Setting, State, Known, known_at, first_known}

first-step : (g : Setting) (s : State) (kinds : List ℕ) (i : ℕ) → i < length kinds →
    first_known g s (drop i kinds) ≡ option_or (known_at g s (slice_index_or kinds i 0)) (first_known g s (drop (i + 1) kinds))
unfolding first_known
first-step g s kinds i h = rw (add-one, drop-cons kinds i 0 h) refl

pub first-some : (g : Setting) (s : State) (kinds : List ℕ) (i : ℕ) (k : Known) (o : Option Known) → i < length kinds → Some k ≡ known_at g s (slice_index_or kinds i 0) →
    first_known g s (drop i kinds) ≡ o → Some k ≡ o
first-some g s kinds i k o h e w = ap (λ x. option_or x (first_known g s (drop (i + 1) kinds))) e ∙ (sym (first-step g s kinds i h) ∙ w)

pub first-none : (g : Setting) (s : State) (kinds : List ℕ) (i : ℕ) (o : Option Known) → i < length kinds → None ≡ known_at g s (slice_index_or kinds i 0) →
    first_known g s (drop i kinds) ≡ o → first_known g s (drop (i + 1) kinds) ≡ o
first-none g s kinds i o h e w = ap (λ x. option_or x (first_known g s (drop (i + 1) kinds))) e ∙ (sym (first-step g s kinds i h) ∙ w)

pub first-end : (g : Setting) (s : State) (kinds : List ℕ) (i : ℕ) (o : Option Known) → length kinds ≤ i → first_known g s (drop i kinds) ≡ o → None ≡ o
unfolding first_known
first-end g s kinds i o h w = ap (first_known g s) (sym (drop_all i kinds h)) ∙ w
