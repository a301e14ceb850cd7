-- Names in dotted text, read part by part.
use Rattle.std.proofs.Common.{◌≡◌, ◌≢◌, ℕ, ◌+◌, List, [], ◌∷◌, ◌++◌, length, refl, sym, ◌∙◌, ap, arith, append_assoc, Some, None, Ok, Err}
use Rattle.std.specs.Option.{option_or}
use Rattle.std.proofs.lemmas.List.{append-nil, length-append}
use Rattle.dc_model.specs.Name.{Name, wire, wire_length, dotted_parts, label_refusal, labels_refusal, unless_refused, name_of_parts, NameRefusal}

-- a text is read as a name so far, with these parts of it still to be read
pub record IsSoFar (text : List ℕ) (name : Name) (parts : List (List ℕ)) : Type 0 where
  pub whole : name ++ parts ≡ dotted_parts text
  pub refusal : labels_refusal 1 (dotted_parts text) ≡ labels_refusal (wire_length name) parts

pub length-wire-push : (n : Name) (l : List ℕ) → length (wire (n ++ (l ∷ []))) ≡ length (wire n) + 1 + length l
length-wire-push [] l = let c = length-append l (0 ∷ []) in omega (arith, c)
length-wire-push (m ∷ ms) l =
    let a = length-append m (wire (ms ++ (l ∷ []))) in
    let b = length-append m (wire ms) in
    let h = length-wire-push ms l in
    omega (arith, a, b, h)

pub so_far_more : (t : List ℕ) (name : Name) (part : List ℕ) (parts : List (List ℕ)) → IsSoFar t name (part ∷ parts) → label_refusal (wire_length name) part ≡ None → IsSoFar t (name ++ (part ∷ [])) parts
so_far_more t name part parts s r = record {
  whole = append_assoc name (part ∷ []) parts ∙ s.whole;
  refusal = s.refusal ∙ ap (λ o. option_or o (labels_refusal (wire_length name + 1 + length part) parts)) r ∙ ap (λ n. labels_refusal n parts) (sym (length-wire-push name part));
}

refused_of : (t : List ℕ) (w : NameRefusal) → t ≢ [] → labels_refusal 1 (dotted_parts t) ≡ Some w → name_of_parts t ≡ Err w
refused_of [] w h e = absurd (h refl)
refused_of (c ∷ cs) w h e = ap (λ o. unless_refused o (dotted_parts (c ∷ cs))) e

taken_of : (t : List ℕ) → t ≢ [] → labels_refusal 1 (dotted_parts t) ≡ None → name_of_parts t ≡ Ok (dotted_parts t)
taken_of [] h e = absurd (h refl)
taken_of (c ∷ cs) h e = ap (λ o. unless_refused o (dotted_parts (c ∷ cs))) e

-- a part that is refused refuses the text
pub so_far_refused : (t : List ℕ) (name : Name) (part : List ℕ) (parts : List (List ℕ)) (w : NameRefusal) → t ≢ [] → IsSoFar t name (part ∷ parts) → label_refusal (wire_length name) part ≡ Some w → name_of_parts t ≡ Err w
so_far_refused t name part parts w h s r = refused_of t w h (s.refusal ∙ ap (λ o. option_or o (labels_refusal (wire_length name + 1 + length part) parts)) r)

-- with the last part the name is read
pub so_far_done : (t : List ℕ) (name : Name) → t ≢ [] → IsSoFar t name [] → name_of_parts t ≡ Ok name
so_far_done t name h s = taken_of t h s.refusal ∙ ap (λ ps. Ok ps) (sym s.whole ∙ append-nil name)
