-- What a write of a link leaves of the entries and the other chains.
use Rattle.std.proofs.Common.{◌≡◌, ℕ, ◌+◌, ◌<◌, ◌≤◌, Bool, true, false, if◌then◌else◌, ◌==◌, List, [], ◌∷◌, ◌++◌, length, refl, sym, ◌∙◌, ap, arith, subst, ◌⊎◌, inl, inr, ⊎_elim}
use Rattle.std.specs.Prelude.{bit_xor}
use Rattle.std.proofs.lemmas.Bool.{eq-eqb, ne_eqb, cases_lt}
use Rattle.std.proofs.lemmas.Bool.Decides.{eqb_tells}
use Rattle.dc_model.specs.Block.{get4, set4}
use Rattle.dc_arena.proofs.Laws.{get4-set4_other, part-set4_other, length-set4, get8-set4_other}
use Rattle.dc_model.specs.Chain.{last, Linked, Apart, ApartFrom, Spread}
use Rattle.dc_chain.proofs.LinkLemmas.{linked_stays, unlinked, tail_link, spread_last}
use Rattle.dc_model.specs.Cache.{entry_size, hsize, bucket}
use Rattle.dc_model.specs.Layout.{Place, EntryAt, IsHead, chain, ClearOf, Stands, Held, Holds}

-- what holds of each place in a list
abbrev pub Each : (ℕ → Type 0) → List ℕ → Type 0
Each Q [] = Unit {0}
Each Q (x ∷ xs) = Q x × Each Q xs

pub each_chosen : (Q : ℕ → Type 0) (t : Bool) (x : ℕ) (xs : List ℕ) → (t ≡ true → Q x) → Each Q xs → Each Q (if t then x ∷ xs else xs)
each_chosen Q true x xs h k = (h refl, k)
each_chosen Q false x xs h k = k

each_both : (Q R : ℕ → Type 0) (xs : List ℕ) → Each Q xs → Each R xs → Each (λ x. Q x × R x) xs
each_both Q R [] h k = tt
each_both Q R (x ∷ xs) h k = ((h.0, k.0), each_both Q R xs h.1 k.1)

pub each_map : (Q R : ℕ → Type 0) (xs : List ℕ) → ((x : ℕ) → Q x → R x) → Each Q xs → Each R xs
each_map Q R [] f h = tt
each_map Q R (x ∷ xs) f h = (f x h.0, each_map Q R xs f h.1)

chosen_append : (t : Bool) (x : ℕ) (xs ys zs : List ℕ) → zs ≡ xs ++ ys → (if t then x ∷ zs else zs) ≡ (if t then x ∷ xs else xs) ++ ys
chosen_append true x xs ys zs h = ap (λ (l : List ℕ). x ∷ l) h
chosen_append false x xs ys zs h = h

pub at_last : (Q : ℕ → Type 0) (x : ℕ) (xs : List ℕ) → Q x → Each Q xs → Q (last x xs)
at_last Q x [] h k = h
at_last Q x (y ∷ ys) h k = at_last Q y ys k.0 k.1

pub is_chosen : (m n : ℕ) → (m == n) ≡ true → m ≡ n
is_chosen m n h = ⊎_elim (λ p. p.1) (λ p. absurd (let q = p.0 in cc)) (eqb_tells m n)

-- a link l of the chain of head h, beside a place: before it, past its entry, or its own link
abbrev pub Beside : ℕ → ℕ → ℕ → Place → Type 0
Beside size h l p = (l + 4 ≤ p.at) ⊎ ((p.at + entry_size p.entry ≤ l) ⊎ ((l ≡ p.at) × (bucket size p.entry.key ≡ h)))

abbrev pub Own : ℕ → ℕ → ℕ → List Place → Type 0
Own size h l [] = Unit {0}
Own size h l (p ∷ ps) = Beside size h l p × Own size h l ps

pub own_head : (b : List ℕ) (size h l : ℕ) (ps : List Place) → l + 4 ≤ hsize size → Held b size ps → Own size h l ps
own_head b size h l [] k d = tt
own_head b size h l (p ∷ ps) k d = (let a = d.0.after in inl (omega arith), own_head b size h l ps k d.1.1)

pub own_place : (size h : ℕ) (p : Place) (ps : List Place) → ClearOf p ps → Own size h p.at ps
own_place size h p [] c = tt
own_place size h p (q ∷ qs) c = (⊎_elim (λ k. inl (omega arith)) (λ k. inr (inl k)) c.0, own_place size h p qs c.1)

-- the places of a chain, beside a place that is clear of them
pub chain_beside : (size h : ℕ) (p : Place) (ps : List Place) → ClearOf p ps → Each (λ l. Beside size h l p) (chain size h ps)
chain_beside size h p [] c = tt
chain_beside size h p (q ∷ qs) c = each_chosen (λ l. Beside size h l p) (bucket size q.entry.key == h) q.at (chain size h qs)
    (λ _. ⊎_elim (λ k. inr (inl k)) (λ k. inl (omega arith)) c.0)
    (chain_beside size h p qs c.1)

pub each_own : (b : List ℕ) (size h : ℕ) (ps : List Place) → Held b size ps → Each (λ l. Own size h l ps) (chain size h ps)
each_own b size h [] d = tt
each_own b size h (p ∷ ps) d = each_chosen (λ l. Own size h l (p ∷ ps)) (bucket size p.entry.key == h) p.at (chain size h ps)
    (λ t. (inr (inr (refl, is_chosen _ _ t)), own_place size h p ps d.1.0))
    (each_both (λ l. Beside size h l p) (λ l. Own size h l ps) (chain size h ps) (chain_beside size h p ps d.1.0) (each_own b size h ps d.1.1))

pub own_last : (b : List ℕ) (size h : ℕ) (ps : List Place) → h + 4 ≤ hsize size → Held b size ps → Own size h (last h (chain size h ps)) ps
own_last b size h ps k d = at_last (λ l. Own size h l ps) h (chain size h ps) (own_head b size h h ps k d) (each_own b size h ps d)

-- a write of a link leaves the entries
pub entry_stays : (b : List ℕ) (l n : ℕ) (p : Place) → l + 4 ≤ length b → (l ≤ p.at) ⊎ (p.at + entry_size p.entry ≤ l) → EntryAt b p.at p.entry → EntryAt (set4 b l n) p.at p.entry
entry_stays b l n p h o e =
    let side : (from k : ℕ) → p.at + 4 ≤ from → from + k ≤ p.at + entry_size p.entry → (from + k ≤ l) ⊎ (l + 4 ≤ from) =
    λ from k f t. ⊎_elim (λ q. inr (omega arith)) (λ q. inl (omega arith)) o in
    record {
      key_len = get4-set4_other b l n (p.at + 4) h (side (p.at + 4) 4 (omega arith) (omega arith)) ∙ e.key_len;
      body_len = get4-set4_other b l n (p.at + 8) h (side (p.at + 8) 4 (omega arith) (omega arith)) ∙ e.body_len;
      expiry = get8-set4_other b l n (p.at + 12) h (side (p.at + 12) 8 (omega arith) (omega arith)) ∙ e.expiry;
      key = part-set4_other b l n (p.at + 20) (length p.entry.key) h (side (p.at + 20) (length p.entry.key) (omega arith) (omega arith)) ∙ e.key;
      body = part-set4_other b l n (p.at + 20 + length p.entry.key) (length p.entry.body) h (side (p.at + 20 + length p.entry.key) (length p.entry.body) (omega arith) (omega arith)) ∙ e.body;
    }

pub held_stays : (b : List ℕ) (size h l n : ℕ) (ps : List Place) → l + 4 ≤ length b → Own size h l ps → Held b size ps → Held (set4 b l n) size ps
held_stays b size h l n [] k o d = tt
held_stays b size h l n (p ∷ ps) k o d =
    let side : (l ≤ p.at) ⊎ (p.at + entry_size p.entry ≤ l) = ⊎_elim (λ q. inl (omega arith)) (λ q. ⊎_elim (λ r. inr r) (λ r. let e = r.0 in inl (omega arith)) q) o.0 in
    let s : Stands (set4 b l n) size p = record { bytes = entry_stays b l n p k side d.0.bytes; limits = d.0.limits; after = d.0.after; within = d.0.within } in
    (s, (d.1.0, held_stays b size h l n ps k o.1 d.1.1))

-- the other links
pub heads_apart : (size h k : ℕ) → IsHead size h → IsHead size k → (h ≡ k → ⊥) → Apart h k
heads_apart size h k p q n =
    let a = p.whole in
    let b = q.whole in
    ⊎_elim (λ (l : h < k). inl (omega arith)) (λ (l : k ≤ h). inr (omega arith)) (cases_lt h k)

-- places of a chain lie behind the heads
pub chain_after : (b : List ℕ) (size h : ℕ) (ps : List Place) → Held b size ps → Each (λ l. hsize size ≤ l) (chain size h ps)
chain_after b size h [] d = tt
chain_after b size h (p ∷ ps) d = each_chosen (λ l. hsize size ≤ l) (bucket size p.entry.key == h) p.at (chain size h ps) (λ _. d.0.after) (chain_after b size h ps d.1.1)

apart_chosen : (l : ℕ) (t : Bool) (x : ℕ) (xs : List ℕ) → (t ≡ true → Apart l x) → ApartFrom l xs → ApartFrom l (if t then x ∷ xs else xs)
apart_chosen l true x xs h k = (h refl, k)
apart_chosen l false x xs h k = k

-- a link of one chain is apart from those of another
pub own_apart : (size h k l : ℕ) (ps : List Place) → (h ≡ k → ⊥) → Own size h l ps → ApartFrom l (chain size k ps)
own_apart size h k l [] n o = tt
own_apart size h k l (p ∷ ps) n o = apart_chosen l (bucket size p.entry.key == k) p.at (chain size k ps)
    (λ t. ⊎_elim (λ q. inl q) (λ q. ⊎_elim (λ r. inr (omega arith)) (λ r. absurd (n (sym r.1 ∙ is_chosen _ _ t))) q) o.0)
    (own_apart size h k l ps n o.1)

last_apart : (b : List ℕ) (size h k : ℕ) (ps : List Place) → IsHead size h → IsHead size k → (h ≡ k → ⊥) → Held b size ps → Apart (last h (chain size h ps)) k
last_apart b size h k ps p q n d =
    let w = q.within in
    at_last (λ l. Apart l k) h (chain size h ps) (heads_apart size h k p q n) (each_map (λ l. hsize size ≤ l) (λ l. Apart l k) (chain size h ps) (λ l a. inr (omega arith)) (chain_after b size h ps d))

-- one chain is spread
pub clear_apart : (size h : ℕ) (p : Place) (ps : List Place) → ClearOf p ps → ApartFrom p.at (chain size h ps)
clear_apart size h p [] c = tt
clear_apart size h p (q ∷ qs) c = apart_chosen p.at (bucket size q.entry.key == h) q.at (chain size h qs)
    (λ _. ⊎_elim (λ k. inl (omega arith)) (λ k. inr (omega arith)) c.0) (clear_apart size h p qs c.1)

spread_chosen : (n : ℕ) (t : Bool) (x : ℕ) (xs : List ℕ) → x + 4 ≤ n → ApartFrom x xs → Spread n xs → Spread n (if t then x ∷ xs else xs)
spread_chosen n true x xs h a s = (h, a, s)
spread_chosen n false x xs h a s = s

pub chain_spread : (b : List ℕ) (size h : ℕ) (ps : List Place) → Held b size ps → Spread size (chain size h ps)
chain_spread b size h [] d = tt
chain_spread b size h (p ∷ ps) d = let w = d.0.within in
    spread_chosen size (bucket size p.entry.key == h) p.at (chain size h ps) (omega arith) (clear_apart size h p ps d.1.0) (chain_spread b size h ps d.1.1)

pub head_apart : (b : List ℕ) (size h k : ℕ) (ps : List Place) → h + 4 ≤ hsize size → Held b size ps → ApartFrom h (chain size k ps)
head_apart b size h k [] w d = tt
head_apart b size h k (p ∷ ps) w d = let a = d.0.after in
    apart_chosen h (bucket size p.entry.key == k) p.at (chain size k ps) (λ _. inl (omega arith)) (head_apart b size h k ps w d.1.1)

-- the last place
chain_last : (size h : ℕ) (ps : List Place) (x : Place) → bucket size x.entry.key ≡ h → chain size h (ps ++ x ∷ []) ≡ chain size h ps ++ x.at ∷ []
chain_last size h [] x e = rw (eq-eqb (bucket size x.entry.key) h e) refl
chain_last size h (p ∷ ps) x e = chosen_append (bucket size p.entry.key == h) p.at (chain size h ps) (x.at ∷ []) (chain size h (ps ++ x ∷ [])) (chain_last size h ps x e)

chain_other : (size h : ℕ) (ps : List Place) (x : Place) → (bucket size x.entry.key ≡ h → ⊥) → chain size h (ps ++ x ∷ []) ≡ chain size h ps
chain_other size h [] x n = rw (ne_eqb (bucket size x.entry.key) h n) refl
chain_other size h (p ∷ ps) x n = ap (λ (l : List ℕ). (if (bucket size p.entry.key == h) then p.at ∷ l else l)) (chain_other size h ps x n)

clear_front : (p : Place) (ps qs : List Place) → ClearOf p (ps ++ qs) → ClearOf p ps
clear_front p [] qs c = tt
clear_front p (q ∷ ps) qs c = (c.0, clear_front p ps qs c.1)

held_front : (b : List ℕ) (size : ℕ) (ps qs : List Place) → Held b size (ps ++ qs) → Held b size ps
held_front b size [] qs d = tt
held_front b size (p ∷ ps) qs d = (d.0, (clear_front p ps qs d.1.0, held_front b size ps qs d.1.1))

pub held_last : (b : List ℕ) (size : ℕ) (ps : List Place) (x : Place) → Held b size (ps ++ x ∷ []) → Stands b size x
held_last b size [] x d = d.0
held_last b size (p ∷ ps) x d = held_last b size ps x d.1.1

abbrev pub home : ℕ → Place → ℕ
home size x = bucket size x.entry.key

module _ (b : List ℕ) (size : ℕ) (ps : List Place) (x : Place) (i : IsHead size (bucket size x.entry.key)) (s : Holds b size (ps ++ x ∷ [])) where
  pub x_spread : Spread (length b) (home size x ∷ (chain size (home size x) ps ++ x.at ∷ []))
  x_spread =
      let h : ℕ = bucket size x.entry.key in
      let t = held_last b size ps x s.held in
      let w = i.within in let a = t.after in let f = t.within in
      let P : List ℕ → Type 0 = λ l. Spread (length b) (h ∷ l) in
      let Q : ℕ → Type 0 = λ n. Spread n (h ∷ chain size h (ps ++ x ∷ [])) in
      subst P (chain_last size h ps x refl)
      (subst Q (sym s.block) (omega arith, head_apart b size h h (ps ++ x ∷ []) i.within s.held, chain_spread b size h (ps ++ x ∷ []) s.held))

  pub x_linked : Linked b 0 (home size x ∷ (chain size (home size x) ps ++ x.at ∷ []))
  x_linked =
      let P : List ℕ → Type 0 = λ l. Linked b 0 (bucket size x.entry.key ∷ l) in
      subst P (chain_last size (bucket size x.entry.key) ps x refl) (s.links (bucket size x.entry.key) i)

  pub x_before : get4 b x.at ≡ last (home size x) (chain size (home size x) ps)
  x_before = tail_link b 0 (home size x) x.at (chain size (home size x) ps) x_linked

  pub x_fits : last (home size x) (chain size (home size x) ps) + 4 ≤ length b
  x_fits = spread_last (length b) (home size x) x.at (chain size (home size x) ps) x_spread

  pub x_within : x.at + 4 ≤ length b
  x_within = let t = (held_last b size ps x s.held).within in let z = s.block in omega arith

  -- what leaves last leaves the rest as it was
  pub dropped : Holds (set4 b (last (home size x) (chain size (home size x) ps)) (bit_xor (get4 b (last (home size x) (chain size (home size x) ps))) x.at)) size ps
  dropped =
      let h : ℕ = bucket size x.entry.key in
      let l : ℕ = last h (chain size h ps) in
      let m : ℕ = bit_xor (get4 b l) x.at in
      let d : Held b size ps = held_front b size ps (x ∷ []) s.held in
      let z = s.block in
      let sm = s.small in
      record {
        block = length-set4 b l m x_fits ∙ s.block;
        small = s.small;
        held = held_stays b size h l m ps x_fits (own_last b size h ps i.within d) d;
        links = λ k q. ⊎_elim
            (λ e. let P : ℕ → Type 0 = λ j. Linked (set4 b l m) 0 (j ∷ chain size j ps) in
            subst P e.1 (unlinked b 0 h x.at (chain size h ps) (omega arith) (omega arith) x_spread x_linked))
            (λ e. linked_stays b l m 0 (k ∷ chain size k ps) x_fits
            (last_apart b size h k ps i q e.1 d, own_apart size h k l ps e.1 (own_last b size h ps i.within d))
            (let P : List ℕ → Type 0 = λ c. Linked b 0 (k ∷ c) in subst P (chain_other size k ps x e.1) (s.links k q)))
            (eqb_tells h k);
      }
