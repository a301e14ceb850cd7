-- An entry comes to the front of its chain.
use Rattle.std.proofs.Common.{◌≡◌, ℕ, ◌+◌, ◌<◌, ◌≤◌, ◌^◌, Bool, true, false, if◌then◌else◌, ◌==◌, List, [], ◌∷◌, length, refl, sym, ◌∙◌, arith, subst, ◌⊎◌, inl, inr, ⊎_elim}
use Rattle.std.specs.Prelude.{bit_xor}
use Rattle.std.proofs.lemmas.Bool.{eq-eqb, ne_eqb}
use Rattle.std.proofs.lemmas.Bool.Decides.{eqb_tells}
use Rattle.dc_model.specs.Block.{get4, set4}
use Rattle.dc_arena.proofs.Laws.{length-set4}
use Rattle.dc_model.specs.Chain.{first, Linked, ApartFrom, Spread, Real}
use Rattle.dc_chain.proofs.LinkLemmas.{linked_stays, first_some, first_none}
use Rattle.dc_model.specs.Cache.{entry_size, hsize, bucket}
use Rattle.dc_model.proofs.SizeLemmas.{hsize_least}
use Rattle.dc_model.specs.Layout.{Place, EntryAt, IsHead, chain, ClearOf, Stands, Held, Holds}
use Rattle.dc_chain.proofs.Held.{Each, each_chosen, Beside, Own, own_head, own_place, chain_beside, each_own, entry_stays, held_stays, heads_apart, chain_after, own_apart, clear_apart, chain_spread, head_apart, home}

at_first : (Q : ℕ → Type 0) (f : ℕ) (xs : List ℕ) → f ≡ first xs → (f ≡ 0 → ⊥) → Each Q xs → Q f
at_first Q f [] e n h = absurd (n e)
at_first Q f (x ∷ xs) e n h = subst Q (sym e) h.0

chain_fits : (b : List ℕ) (size h : ℕ) (ps : List Place) → Held b size ps → Each (λ l. l + 4 ≤ size) (chain size h ps)
chain_fits b size h [] d = tt
chain_fits b size h (p ∷ ps) d = each_chosen (λ l. l + 4 ≤ size) (bucket size p.entry.key == h) p.at (chain size h ps) (λ _. let w = d.0.within in omega arith) (chain_fits b size h ps d.1.1)

real_chosen : (t : Bool) (x : ℕ) (xs : List ℕ) → 0 < x → Real xs → Real (if t then x ∷ xs else xs)
real_chosen true x xs h k = (h, k)
real_chosen false x xs h k = k

chain_real : (b : List ℕ) (size h : ℕ) (ps : List Place) → Held b size ps → Real (chain size h ps)
chain_real b size h [] d = tt
chain_real b size h (p ∷ ps) d = real_chosen (bucket size p.entry.key == h) p.at (chain size h ps) (let a = d.0.after in let m = hsize_least size in omega arith) (chain_real b size h ps d.1.1)

-- a write of one link, apart from the bytes of a new place too
pub record Quiet (b : List ℕ) (size h l : ℕ) (p : Place) (ps : List Place) : Type 0 where
  pub fits : l + 4 ≤ length b
  pub own : Own size h l ps
  pub side : (l ≤ p.at) ⊎ (p.at + entry_size p.entry ≤ l)
  pub others : (k : ℕ) → IsHead size k → (h ≡ k → ⊥) → ApartFrom l (k ∷ chain size k ps)

-- what is kept of the block by such writes
pub record Kept (b : List ℕ) (size h : ℕ) (p : Place) (ps : List Place) : Type 0 where
  pub block : length b ≡ size
  pub here : EntryAt b p.at p.entry
  pub held : Held b size ps
  pub others : (k : ℕ) → IsHead size k → (h ≡ k → ⊥) → Linked b 0 (k ∷ chain size k ps)

pub kept_on : (b : List ℕ) (size h l n : ℕ) (p : Place) (ps : List Place) → Quiet b size h l p ps → Kept b size h p ps → Kept (set4 b l n) size h p ps
kept_on b size h l n p ps q k = record {
  block = length-set4 b l n q.fits ∙ k.block;
  here = entry_stays b l n p q.fits q.side k.here;
  held = held_stays b size h l n ps q.fits q.own k.held;
  others = λ j i ne. linked_stays b l n 0 (j ∷ chain size j ps) q.fits (q.others j i ne) (k.others j i ne);
}

quiet_to : (b c : List ℕ) (size h l : ℕ) (p : Place) (ps : List Place) → length b ≡ length c → Quiet b size h l p ps → Quiet c size h l p ps
quiet_to b c size h l p ps e q = record { fits = let f = q.fits in omega arith; own = q.own; side = q.side; others = q.others }

module _ (b : List ℕ) (size : ℕ) (p : Place) (ps : List Place) (i : IsHead size (bucket size p.entry.key)) (s : Holds b size ps) (st : Stands b size p) (cl : ClearOf p ps) where
  quiet_here : Quiet b size (home size p) p.at p ps
  quiet_here = record {
    fits = let w = st.within in let z = s.block in omega arith;
    own = own_place size (home size p) p ps cl;
    side = inl (omega arith);
    others = λ k j n. (let w = j.within in let a = st.after in inr (omega arith), clear_apart size k p ps cl);
  }

  quiet_head : Quiet b size (home size p) (home size p) p ps
  quiet_head = record {
    fits = let w = st.within in let z = s.block in let a = st.after in let v = i.within in omega arith;
    own = own_head b size (home size p) (home size p) ps i.within s.held;
    side = let a = st.after in let v = i.within in inl (omega arith);
    others = λ k j n. (heads_apart size (home size p) k i j n, head_apart b size (home size p) k ps i.within s.held);
  }

  beside_side : (l : ℕ) → Beside size (home size p) l p → (l ≤ p.at) ⊎ (p.at + entry_size p.entry ≤ l)
  beside_side l e = ⊎_elim (λ q. inl (omega arith)) (λ q. ⊎_elim (λ r. inr r) (λ r. let z = r.0 in inl (omega arith)) q) e

  kept_start : Kept b size (home size p) p ps
  kept_start = record { block = s.block; here = st.bytes; held = s.held; others = λ k j n. s.links k j }

  new_spread : Spread (length b) (p.at ∷ (home size p ∷ chain size (home size p) ps))
  new_spread =
      let Q : ℕ → Type 0 = λ n. Spread n (p.at ∷ (home size p ∷ chain size (home size p) ps)) in
      let w = st.within in let a = st.after in let v = i.within in
      subst Q (sym s.block) (omega arith, (inr (omega arith), clear_apart size (home size p) p ps cl), (omega arith, head_apart b size (home size p) (home size p) ps i.within s.held, chain_spread b size (home size p) ps s.held))

  -- a block that keeps the rest and has the new chain
  pub finish : (c : List ℕ) → Kept c size (home size p) p ps → Linked c 0 (home size p ∷ (p.at ∷ chain size (home size p) ps)) → Holds c size (p ∷ ps)
  finish c k l = record {
    block = k.block;
    small = s.small;
    held = (let t : Stands c size p = record { bytes = k.here; limits = st.limits; after = st.after; within = st.within } in t, (cl, k.held));
    links = λ j q. ⊎_elim
        (λ e. let P : ℕ → Type 0 = λ m. Linked c 0 (m ∷ chain size m (p ∷ ps)) in
        let R : Bool → Type 0 = λ t. Linked c 0 (home size p ∷ (if t then p.at ∷ chain size (home size p) ps else chain size (home size p) ps)) in
        subst P e.1 (subst R (sym (eq-eqb (home size p) (home size p) refl)) l))
        (λ e. let R : Bool → Type 0 = λ t. Linked c 0 (j ∷ (if t then p.at ∷ chain size j ps else chain size j ps)) in
        subst R (sym (ne_eqb (home size p) j e.1)) (k.others j q e.1))
        (eqb_tells (home size p) j);
  }

  -- the first place of the chain
  quiet_first : (f : ℕ) → (f ≡ 0 → ⊥) → f ≡ first (chain size (home size p) ps) → Quiet b size (home size p) f p ps
  quiet_first f n e =
      let h : ℕ = home size p in
      let o = at_first (λ l. Own size h l ps) f (chain size h ps) e n (each_own b size h ps s.held) in
      let w = at_first (λ l. l + 4 ≤ size) f (chain size h ps) e n (chain_fits b size h ps s.held) in
      let a = at_first (λ l. hsize size ≤ l) f (chain size h ps) e n (chain_after b size h ps s.held) in
      record {
        fits = let z = s.block in omega arith;
        own = o;
        side = beside_side f (at_first (λ l. Beside size h l p) f (chain size h ps) e n (chain_beside size h p ps cl));
        others = λ k j m. (let v = j.within in inr (omega arith), own_apart size h k f ps m o);
      }

  pub linked_some : (new : List ℕ) (f m : ℕ) → (f ≡ 0 → ⊥) → f < 2 ^ 32 → f ≡ get4 b (home size p) → m ≡ get4 (set4 b p.at (bit_xor (home size p) f)) f → m < 2 ^ 32
      → new ≡ set4 (set4 (set4 b p.at (bit_xor (home size p) f)) f (bit_xor (bit_xor m (home size p)) p.at)) (home size p) p.at → Holds new size (p ∷ ps)
  linked_some new f m n fl e me ml w =
      let h : ℕ = home size p in
      let l = s.links h i in
      let v = i.within in let a = st.after in let t = st.within in let z = s.small in
      let b1 : List ℕ = set4 b p.at (bit_xor h f) in
      let b2 : List ℕ = set4 b1 f (bit_xor (bit_xor m h) p.at) in
      let k1 = kept_on b size h p.at (bit_xor h f) p ps quiet_here kept_start in
      let n1 : length b ≡ length b1 = s.block ∙ sym k1.block in
      let k2 = kept_on b1 size h f (bit_xor (bit_xor m h) p.at) p ps (quiet_to b b1 size h f p ps n1 (quiet_first f n (e ∙ l.0))) k1 in
      let n2 : length b ≡ length b2 = s.block ∙ sym k2.block in
      let k3 = kept_on b2 size h h p.at p ps (quiet_to b b2 size h h p ps n2 quiet_head) k2 in
      let K : List ℕ → Type 0 = λ d. Kept d size h p ps in
      finish new (subst K (sym w) k3) (first_some b new h p.at f m (chain size h ps) (omega arith) (omega arith) e n fl me ml w new_spread l)

  pub linked_none : (new : List ℕ) (f : ℕ) → f ≡ 0 → f ≡ get4 b (home size p) → new ≡ set4 (set4 b p.at (bit_xor (home size p) f)) (home size p) p.at → Holds new size (p ∷ ps)
  linked_none new f n e w =
      let h : ℕ = home size p in
      let l = s.links h i in
      let v = i.within in let a = st.after in let t = st.within in let z = s.small in
      let b1 : List ℕ = set4 b p.at (bit_xor h f) in
      let k1 = kept_on b size h p.at (bit_xor h f) p ps quiet_here kept_start in
      let n1 : length b ≡ length b1 = s.block ∙ sym k1.block in
      let k2 = kept_on b1 size h h p.at p ps (quiet_to b b1 size h h p ps n1 quiet_head) k1 in
      let K : List ℕ → Type 0 = λ d. Kept d size h p ps in
      finish new (subst K (sym w) k2) (first_none b new h p.at f (chain size h ps) (omega arith) (omega arith) e n (chain_real b size h ps s.held) w new_spread l)

  pub first_fits : (f : ℕ) → (f ≡ 0 → ⊥) → f ≡ get4 b (home size p) → f + 4 ≤ length b
  first_fits f n e = (quiet_first f n (e ∙ (s.links (home size p) i).0)).fits
