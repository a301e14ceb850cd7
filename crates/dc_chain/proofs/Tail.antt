-- The last entry of a bucket may as well be the last of all.
use Rattle.std.proofs.Common.{◌≡◌, ℕ, ◌+◌, ◌≤◌, length, Bool, true, false, if◌then◌else◌, ◌==◌, List, [], ◌∷◌, ◌++◌, refl, sym, ◌∙◌, ap, subst, inl, inr, ⊎_elim, append_assoc}
use Rattle.std.proofs.lemmas.Bool.Decides.{eqb_tells}
use Rattle.dc_model.specs.Cache.{bucket}
use Rattle.std.specs.Prelude.{bit_xor}
use Rattle.dc_model.specs.Block.{get4, set4}
use Rattle.dc_model.specs.Chain.{last, Linked}
use Rattle.dc_model.specs.Layout.{Place, chain, Clear, ClearOf, Stands, Held, Holds}
use Rattle.std.proofs.lemmas.List.{append-nil}
use Rattle.dc_model.proofs.SizeLemmas.{bucket_head}
use Rattle.dc_chain.specs.Chains.{IsTail}
use Rattle.dc_chain.proofs.Held.{dropped, x_before, x_fits, home, held_last}

swap_clear : (p q : Place) → Clear p q → Clear q p
swap_clear p q c = ⊎_elim (λ h. inr h) (λ h. inl h) c

-- an entry moves behind the others
clear_moved : (p : Place) (ps qs : List Place) (x : Place) → ClearOf p (ps ++ x ∷ qs) → ClearOf p ((ps ++ qs) ++ x ∷ [])
clear_moved p [] [] x c = c
clear_moved p [] (q ∷ qs) x c = (c.1.0, clear_moved p [] qs x (c.0, c.1.1))
clear_moved p (r ∷ ps) qs x c = (c.0, clear_moved p ps qs x c.1)

held_moved : (b : List ℕ) (size : ℕ) (ps qs : List Place) (x : Place) → Held b size (ps ++ x ∷ qs) → Held b size ((ps ++ qs) ++ x ∷ [])
held_moved b size [] [] x d = d
held_moved b size [] (q ∷ qs) x d =
    (d.1.1.0, (clear_moved q [] qs x (swap_clear x q d.1.0.0, d.1.1.1.0), held_moved b size [] qs x (d.0, (d.1.0.1, d.1.1.1.1))))
held_moved b size (p ∷ ps) qs x d = (d.0, (clear_moved p ps qs x d.1.0, held_moved b size ps qs x d.1.1))

chosen_append : (t : Bool) (x : ℕ) (xs ys zs : List ℕ) → zs ≡ xs ++ ys → (if t then x ∷ zs else zs) ≡ (if t then x ∷ xs else xs) ++ ys
chosen_append true x xs ys zs h = ap (λ (l : List ℕ). x ∷ l) h
chosen_append false x xs ys zs h = h

pub chain-append : (size h : ℕ) (ps qs : List Place) → chain size h (ps ++ qs) ≡ chain size h ps ++ chain size h qs
chain-append size h [] qs = refl
chain-append size h (p ∷ ps) qs = chosen_append (bucket size p.entry.key == h) p.at (chain size h ps) (chain size h qs) (chain size h (ps ++ qs)) (chain-append size h ps qs)

chosen_moved : (t : Bool) (x : ℕ) (ys : List ℕ) → (t ≡ true → ys ≡ []) → (if t then x ∷ ys else ys) ≡ ys ++ (if t then x ∷ [] else [])
chosen_moved true x ys h = ap (λ (l : List ℕ). x ∷ l) (h refl) ∙ ap (λ (l : List ℕ). l ++ x ∷ []) (sym (h refl))
chosen_moved false x ys h = sym (append-nil ys)

is_same : (m n : ℕ) → (m == n) ≡ true → m ≡ n
is_same m n h = ⊎_elim (λ p. p.1) (λ p. absurd (let q = p.0 in cc)) (eqb_tells m n)

chain_moved : (size h : ℕ) (ps qs : List Place) (x : Place) → chain size (bucket size x.entry.key) qs ≡ [] → chain size h (ps ++ x ∷ qs) ≡ chain size h ((ps ++ qs) ++ x ∷ [])
chain_moved size h ps qs x none =
    let t : Bool = bucket size x.entry.key == h in
    let empty : t ≡ true → chain size h qs ≡ [] = λ e. ap (λ k. chain size k qs) (sym (is_same (bucket size x.entry.key) h e)) ∙ none in
    chain-append size h ps (x ∷ qs)
    ∙ ap (λ l. chain size h ps ++ l) (chosen_moved t x.at (chain size h qs) empty)
    ∙ sym (append_assoc (chain size h ps) (chain size h qs) (if t then x.at ∷ [] else []))
    ∙ ap (λ l. l ++ (if t then x.at ∷ [] else [])) (sym (chain-append size h ps qs))
    ∙ sym (chain-append size h (ps ++ qs) (x ∷ []))

pub moved : (b : List ℕ) (size : ℕ) (ps qs : List Place) (x : Place) → chain size (bucket size x.entry.key) qs ≡ [] → Holds b size (ps ++ x ∷ qs) → Holds b size ((ps ++ qs) ++ x ∷ [])
moved b size ps qs x none s = record {
  block = s.block;
  small = s.small;
  held = held_moved b size ps qs x s.held;
  links = λ h i. let P : List ℕ → Type 0 = λ l. Linked b 0 (h ∷ l) in subst P (chain_moved size h ps qs x none) (s.links h i);
}

module _ (b : List ℕ) (at : ℕ) (before behind : List Place) (p : Place) (t : IsTail b at before behind p) where
  -- the tail of a bucket, behind all others
  pub behind_all : Holds b (length b) ((before ++ behind) ++ p ∷ [])
  behind_all = moved b (length b) before behind p t.last t.holds

  -- it stands at its place
  pub tail_stands : Stands b (length b) (record { at = at; entry = p.entry })
  tail_stands =
      let P : ℕ → Type 0 = λ k. Stands b (length b) (record { at = k; entry = p.entry }) in
      subst P t.place_is (held_last b (length b) (before ++ behind) p behind_all.held)

  -- the link in front of it
  pub tail_front : ℕ
  tail_front = last (home (length b) p) (chain (length b) (home (length b) p) (before ++ behind))

  pub front_is : get4 b at ≡ tail_front
  unfolding tail_front
  front_is = ap (get4 b) (sym t.place_is) ∙ x_before b (length b) (before ++ behind) p (bucket_head (length b) p.entry.key) behind_all

  pub front_fits : tail_front + 4 ≤ length b
  unfolding tail_front
  front_fits = x_fits b (length b) (before ++ behind) p (bucket_head (length b) p.entry.key) behind_all

  -- without it, the block holds the others
  pub tail_left : Holds (set4 b tail_front (bit_xor (get4 b tail_front) at)) (length b) (before ++ behind)
  unfolding tail_front
  tail_left =
      let P : ℕ → Type 0 = λ k. Holds (set4 b tail_front (bit_xor (get4 b tail_front) k)) (length b) (before ++ behind) in
      subst P t.place_is (dropped b (length b) (before ++ behind) p (bucket_head (length b) p.entry.key) behind_all)
