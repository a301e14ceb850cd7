-- What a line shows of a name.
use Rattle.std.proofs.Common.{◌≡◌, ◌≢◌, ℕ, List, [], ◌∷◌, ◌++◌, refl, sym, ◌∙◌, flat_map}
use Rattle.std.proofs.lemmas.List.{append-nil, append_assoc}
use Rattle.dc_model.specs.Name.{Name, lower}
use Rattle.dc_model.specs.Line.{shown_label, shown}

shown-labels : (n : Name) → n ≢ [] → shown n ≡ flat_map shown_label (lower n)
unfolding shown
shown-labels [] h = absurd (h refl)
shown-labels (l ∷ ls) h = refl

shown-root : shown [] ≡ 46 ∷ []
unfolding shown
shown-root = refl

-- The root, behind a space.
pub name_root : (line a b : List ℕ) (n : Name) → n ≡ [] → a ≡ line ++ 32 ∷ [] → b ≡ a ++ 46 ∷ [] → b ≡ line ++ 32 ∷ shown n
name_root line a b n h e f = f ∙ rw (e, h, append_assoc, shown-root) refl

-- A name whose labels were all put, behind a space.
pub name_labels : (line a b : List ℕ) (n rest : Name) → n ≢ [] → rest ≡ [] → a ≡ line ++ 32 ∷ []
    → b ++ flat_map shown_label (lower rest) ≡ a ++ flat_map shown_label (lower n) → b ≡ line ++ 32 ∷ shown n
name_labels line a b n rest some none e f =
    let whole : b ≡ a ++ flat_map shown_label (lower n) = sym (append-nil b) ∙ rw none at f in
    whole ∙ rw (e, shown-labels n some) (append_assoc line (32 ∷ []) (flat_map shown_label (lower n)))
