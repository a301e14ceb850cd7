-- Runs of a filter, one behind the other.
use Rattle.std.proofs.Common.{◌≡◌, ℕ, suc, ◌+◌, List, [], ◌∷◌, ◌++◌, length, refl, ap, sym, ◌∙◌, subst, arith, append_assoc, add-zero}
use Rattle.dc_model.specs.Event.{Event}
use Rattle.dc_event.specs.History.{Exchange, asked, gave, done_all}
use Rattle.dc_lookup.specs.Filter.{Filter, filter_step, filter_after, filter_wake, FilterWentOn}
use Rattle.dc_filter.specs.Serving.{filter_passes}

onward : (n : ℕ) (es : List Event) (e : Event) → (n + 1) + length es ≡ n + length (e ∷ es)
onward n es e = omega arith

pub after_both : (words : ℕ → List ℕ) (n : ℕ) (f : Filter) (xs ys : List Event) → filter_after words n f (xs ++ ys) ≡ filter_after words (n + length xs) (filter_after words n f xs) ys
unfolding filter_after
after_both words n f [] ys = ap (λ m. filter_after words m f ys) (sym (add-zero n))
after_both words n f (e ∷ xs) ys =
    let g : Filter = (filter_step f e (words n)).filter in
    after_both words (n + 1) g xs ys ∙ ap (λ m. filter_after words m (filter_after words (n + 1) g xs) ys) (onward n xs e)

pub passes_both : (words : ℕ → List ℕ) (n : ℕ) (f : Filter) (xs ys : List Event)
    → filter_passes words n f (xs ++ ys) ≡ filter_passes words n f xs ++ filter_passes words (n + length xs) (filter_after words n f xs) ys
unfolding filter_passes filter_after
passes_both words n f [] ys = ap (λ m. filter_passes words m f ys) (sym (add-zero n))
passes_both words n f (e ∷ xs) ys =
    let g : Filter = (filter_step f e (words n)).filter in
    let acts : List Exchange = done_all (filter_step f e (words n)).actions in
    ap (λ (x : List Exchange). asked (filter_wake f) (gave e) ∷ x) (
    ap (λ (x : List Exchange). acts ++ x) (passes_both words (n + 1) g xs ys)
    ∙ sym (append_assoc acts (filter_passes words (n + 1) g xs) (filter_passes words ((n + 1) + length xs) (filter_after words (n + 1) g xs) ys))
    ∙ ap (λ m. (acts ++ filter_passes words (n + 1) g xs) ++ filter_passes words m (filter_after words (n + 1) g xs) ys) (onward n xs e)
    )

pub went_both : (words : ℕ → List ℕ) (n : ℕ) (f : Filter) (xs ys : List Event) → FilterWentOn words n f xs → FilterWentOn words (n + length xs) (filter_after words n f xs) ys → FilterWentOn words n f (xs ++ ys)
unfolding FilterWentOn filter_after
went_both words n f [] ys h k = subst (λ m. FilterWentOn words m f ys) (add-zero n) k
went_both words n f (e ∷ xs) ys h k =
    let g : Filter = (filter_step f e (words n)).filter in
    (h.0, went_both words (n + 1) g xs ys h.1 (subst (λ m. FilterWentOn words m (filter_after words (n + 1) g xs) ys) (sym (onward n xs e)) k))

-- The same from the first event on.

from_nothing : (n : ℕ) → 0 + n ≡ n
from_nothing n = omega arith

pub after_from : (words : ℕ → List ℕ) (f : Filter) (xs ys : List Event) → filter_after words 0 f (xs ++ ys) ≡ filter_after words (length xs) (filter_after words 0 f xs) ys
after_from words f xs ys = after_both words 0 f xs ys ∙ ap (λ m. filter_after words m (filter_after words 0 f xs) ys) (from_nothing (length xs))

pub passes_from : (words : ℕ → List ℕ) (f : Filter) (xs ys : List Event) → filter_passes words 0 f (xs ++ ys) ≡ filter_passes words 0 f xs ++ filter_passes words (length xs) (filter_after words 0 f xs) ys
passes_from words f xs ys = passes_both words 0 f xs ys ∙ ap (λ m. filter_passes words 0 f xs ++ filter_passes words m (filter_after words 0 f xs) ys) (from_nothing (length xs))

pub went_from : (words : ℕ → List ℕ) (f : Filter) (xs ys : List Event) → FilterWentOn words 0 f xs → FilterWentOn words (length xs) (filter_after words 0 f xs) ys → FilterWentOn words 0 f (xs ++ ys)
went_from words f xs ys h k = went_both words 0 f xs ys h (subst (λ m. FilterWentOn words m (filter_after words 0 f xs) ys) (sym (from_nothing (length xs))) k)
