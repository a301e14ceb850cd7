-- A look-up along a chain.
use Rattle.std.proofs.Common.{◌≡◌, ℕ, ◌+◌, ◌≤◌, zero, suc, Bool, true, false, if◌then◌else◌, List, [], ◌∷◌, length, refl, sym, ◌∙◌, ap, arith, Some, None}
use Rattle.std.specs.Prelude.{bit_xor, bytes_eq}
use Rattle.std.specs.Int.Bits.{xor_self, xor_zero_l, xor_assoc}
use Rattle.dc_model.specs.Block.{get4}
use Rattle.dc_model.specs.Chain.{first, Linked, InBlock, IsBucket, place_of, key_at}
use Rattle.dc_chain.specs.Chains.{reads}

-- a place in a chain of which n entries are still to be read
pub record Left (b : List ℕ) (before at n : ℕ) (key ps : List ℕ) : Type 0 where
  pub rest : List ℕ
  pub linked : Linked b before rest
  pub inside : InBlock b rest
  pub here : at ≡ first rest
  pub same : place_of n b key rest ≡ place_of 101 b key ps
  pub count : n + reads 101 b key ps ≡ 101 + reads n b key rest

pub xor_front : (a b : ℕ) → bit_xor a (bit_xor a b) ≡ b
xor_front a b = sym (xor_assoc a a b) ∙ ap (λ k. bit_xor k b) (xor_self a) ∙ xor_zero_l b

none_of : (n : ℕ) (b key : List ℕ) → place_of n b key [] ≡ None
none_of zero b key = refl
none_of (suc n) b key = refl

none_read : (n : ℕ) (b key : List ℕ) → reads n b key [] ≡ 0
none_read zero b key = refl
none_read (suc n) b key = refl

-- no more are read than there may be
pub reads_le : (n : ℕ) (b key ps : List ℕ) → reads n b key ps ≤ n
reads_le zero b key ps = omega arith
reads_le (suc n) b key [] = omega arith
reads_le (suc n) b key (p ∷ ps) = reads_by (bytes_eq (key_at b p) key) (reads_le n b key ps)
  where
    reads_by : (t : Bool) {m n : ℕ} → m ≤ n → (if t then 1 else suc m) ≤ suc n
    reads_by true h = omega arith
    reads_by false h = omega arith

module _ (b : List ℕ) (before at : ℕ) (key ps : List ℕ) where
  gone : (n : ℕ) (rest : List ℕ) → InBlock b rest → at ≡ first rest → at ≡ 0 → rest ≡ []
  gone n [] i h z = refl
  gone n (p ∷ rest) i h z = let k = i.0 in absurd (omega arith)

  pub left_none : (n : ℕ) → Left b before at n key ps → at ≡ 0 → None ≡ place_of 101 b key ps
  left_none n l z = sym (ap (λ r. place_of n b key r) (gone n l.rest l.inside l.here z) ∙ none_of n b key) ∙ l.same

  -- all entries of the chain were read
  pub left_read : (n : ℕ) → Left b before at n key ps → at ≡ 0 → n + reads 101 b key ps ≡ 101
  left_read n l z =
      let none : reads n b key l.rest ≡ 0 = ap (λ r. reads n b key r) (gone n l.rest l.inside l.here z) ∙ none_read n b key in
      omega (arith, none, l.count)

  pub left_done : Left b before at 0 key ps → None ≡ place_of 101 b key ps
  left_done l = l.same

  pub done_read : Left b before at 0 key ps → reads 101 b key ps ≡ 101
  done_read l = omega (arith, l.count)

  fits : (rest : List ℕ) → InBlock b rest → at ≡ first rest → (at ≡ 0 → ⊥) → at + 20 + get4 b (at + 4) + get4 b (at + 8) ≤ length b
  fits [] i h z = absurd (z h)
  fits (p ∷ rest) i h z = rw h i.1

  pub left_fits : (n : ℕ) → Left b before at n key ps → (at ≡ 0 → ⊥) → at + 20 + get4 b (at + 4) + get4 b (at + 8) ≤ length b
  left_fits n l z = fits l.rest l.inside l.here z

  hit : (n : ℕ) (rest : List ℕ) → at ≡ first rest → (at ≡ 0 → ⊥) → bytes_eq (key_at b at) key ≡ true → (Some at ≡ place_of (suc n) b key rest) × (reads (suc n) b key rest ≡ 1)
  hit n [] h z t = absurd (z h)
  hit n (p ∷ rest) h z t = let u : bytes_eq (key_at b p) key ≡ true = ap (λ q. bytes_eq (key_at b q) key) (sym h) ∙ t in (rw u (ap Some h), rw u refl)

  pub left_hit : (n : ℕ) → Left b before at (suc n) key ps → (at ≡ 0 → ⊥) → bytes_eq (key_at b at) key ≡ true → Some at ≡ place_of 101 b key ps
  left_hit n l z t = (hit n l.rest l.here z t).0 ∙ l.same

  pub hit_read : (n : ℕ) → Left b before at (suc n) key ps → (at ≡ 0 → ⊥) → bytes_eq (key_at b at) key ≡ true → n + reads 101 b key ps ≡ 101
  hit_read n l z t = let r = (hit n l.rest l.here z t).1 in omega (arith, r, l.count)

  miss : (n : ℕ) (rest : List ℕ) → Linked b before rest → InBlock b rest → at ≡ first rest → place_of (suc n) b key rest ≡ place_of 101 b key ps → suc n + reads 101 b key ps ≡ 101 + reads (suc n) b key rest
      → (at ≡ 0 → ⊥) → bytes_eq (key_at b at) key ≡ false → Left b at (bit_xor before (get4 b at)) n key ps
  miss n [] l i h s k z t = absurd (z h)
  miss n (p ∷ rest) l i h s k z t =
      let u : bytes_eq (key_at b p) key ≡ false = ap (λ q. bytes_eq (key_at b q) key) (sym h) ∙ t in
      let r : reads (suc n) b key (p ∷ rest) ≡ suc (reads n b key rest) = rw u refl in
      record {
        rest = rest;
        linked = rw h l.1;
        inside = i.2;
        here = ap (λ q. bit_xor before (get4 b q)) h ∙ ap (bit_xor before) l.0 ∙ xor_front before (first rest);
        same = rw u at s;
        count = omega (arith, r, k);
      }

  pub left_miss : (n : ℕ) → Left b before at (suc n) key ps → (at ≡ 0 → ⊥) → bytes_eq (key_at b at) key ≡ false → Left b at (bit_xor before (get4 b at)) n key ps
  left_miss n l z t = miss n l.rest l.linked l.inside l.here l.same l.count z t

pub more : (b : List ℕ) (before at n m : ℕ) (key ps : List ℕ) → n ≡ m → Left b before at n key ps → Left b before at m key ps
more b before at n m key ps e l = rw (← e) l

pub left_start : (b : List ℕ) (head : ℕ) (key ps : List ℕ) → IsBucket b head ps → Left b head (get4 b head) 101 key ps
left_start b head key ps h = record { rest = ps; linked = h.linked.1; inside = h.inside; here = h.linked.0; same = refl; count = refl }
