-- Names in text, label by label.
use Rattle.std.proofs.Common.{◌≡◌, ℕ, ◌+◌, List, [], ◌∷◌, ◌++◌, length, map, flat_map, ap, sym, ◌∙◌, arith, append_assoc, length-append}
use Rattle.std.specs.List.{join_with_byte}
use Rattle.std.specs.Str.{str_to_ascii_lowercase}
use Rattle.std.proofs.lemmas.List.{append-nil}
use Rattle.dc_model.specs.Name.{Name, lower, wire}
use Rattle.dc_lookup.specs.Text.{dot, dot_byte}
use Rattle.dc_show.specs.Dots.{dotted_label, dotted}

joined : (l : List ℕ) (ls : List (List ℕ)) → join_with_byte 46 (map (λ (k : List ℕ). flat_map dot_byte k) (l ∷ ls)) ≡ flat_map dot_byte l ++ flat_map dotted_label ls
joined l [] = sym (append-nil (flat_map dot_byte l))
joined l (k ∷ ls) = ap (λ (t : List ℕ). flat_map dot_byte l ++ (46 ∷ t)) (joined k ls)

dot-labels : (l : List ℕ) (ls : Name) → dot (l ∷ ls) ≡ flat_map dot_byte (str_to_ascii_lowercase l) ++ dotted ls
unfolding dot
dot-labels l ls = joined (str_to_ascii_lowercase l) (lower ls)

pub dot_root : (n : Name) (t : List ℕ) → n ≡ [] → t ≡ 46 ∷ [] → t ≡ dot n
unfolding dot
dot_root n t h e = e ∙ sym (ap (λ (m : Name). dot m) h)

-- Behind the first label.
pub dot_first : (n : Name) (l : List ℕ) (ls : Name) (t : List ℕ) → n ≡ l ∷ ls → t ≡ [] ++ flat_map dot_byte (str_to_ascii_lowercase l) → t ++ dotted ls ≡ dot n
dot_first n l ls t h e = ap (λ (x : List ℕ). x ++ dotted ls) e ∙ sym (ap (λ (m : Name). dot m) h ∙ dot-labels l ls)

-- Behind one more.
pub dot_next : (n rest : Name) (l : List ℕ) (ls : Name) (t u v : List ℕ) → t ++ dotted rest ≡ dot n → rest ≡ l ∷ ls → u ≡ t ++ 46 ∷ [] → v ≡ u ++ flat_map dot_byte (str_to_ascii_lowercase l) → v ++ dotted ls ≡ dot n
dot_next n rest l ls t u v so is e f =
    let label : List ℕ = flat_map dot_byte (str_to_ascii_lowercase l) in
    ap (λ (x : List ℕ). x ++ dotted ls) (f ∙ ap (λ (x : List ℕ). x ++ label) e ∙ append_assoc t (46 ∷ []) label) ∙ append_assoc t (46 ∷ label) (dotted ls)
    ∙ ap (λ (m : Name). t ++ dotted m) (sym is) ∙ so

-- Behind the last.
pub dot_last : (n rest : Name) (t : List ℕ) → t ++ dotted rest ≡ dot n → rest ≡ [] → t ≡ dot n
dot_last n rest t so none = sym (append-nil t) ∙ ap (λ (m : Name). t ++ dotted m) (sym none) ∙ so

pub wire_more : (l : List ℕ) (ls : Name) → length (wire (l ∷ ls)) ≡ 1 + length l + length (wire ls)
wire_more l ls = let both = length-append l (wire ls) in omega (arith, both)
