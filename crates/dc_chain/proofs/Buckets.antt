-- The chain of a bucket, as a look-up reads it.
use Rattle.std.proofs.Common.{◌≡◌, ℕ, ◌+◌, ◌<◌, ◌≤◌, Bool, true, false, if◌then◌else◌, ◌==◌, List, [], ◌∷◌, ◌++◌, length, drop, ◌∙◌, ap, arith, subst}
use Rattle.std.specs.Prelude.{bit_xor}
use Rattle.dc_model.specs.Block.{get4}
use Rattle.dc_model.specs.Cache.{bucket}
use Rattle.dc_model.specs.Chain.{first, Linked, InBlock, IsBucket}
use Rattle.dc_model.specs.Layout.{Place, IsHead, chain, Held, Holds}
use Rattle.dc_model.proofs.SizeLemmas.{hsize_least, hsize_most}
use Rattle.dc_chain.specs.Chains.{IsAfter}
use Rattle.dc_chain.proofs.Places.{xor_front}

inside_chosen : (b : List ℕ) (t : Bool) (x : ℕ) (xs : List ℕ) → 0 < x → x + 20 + get4 b (x + 4) + get4 b (x + 8) ≤ length b → InBlock b xs → InBlock b (if t then x ∷ xs else xs)
inside_chosen b true x xs h k r = (h, k, r)
inside_chosen b false x xs h k r = r

inside : (b : List ℕ) (size k : ℕ) (ps : List Place) → length b ≡ size → Held b size ps → InBlock b (chain size k ps)
inside b size k [] z d = tt
inside b size k (p ∷ ps) z d =
    let a = d.0.after in let m = hsize_least size in let w = d.0.within in let x = d.0.bytes.key_len in let y = d.0.bytes.body_len in
    inside_chosen b (bucket size p.entry.key == k) p.at (chain size k ps) (omega arith) (omega arith) (inside b size k ps z d.1.1)

pub bucket_of_block : (b : List ℕ) (size k : ℕ) (ps : List Place) → IsHead size k → Holds b size ps → IsBucket b k (chain size k ps)
bucket_of_block b size k ps i s = record { linked = s.links k i; inside = inside b size k ps s.block s.held }

-- a head lies in the block
pub head_fits : (b : List ℕ) (k : ℕ) → 100 ≤ length b → IsHead (length b) k → k + 4 ≤ length b
head_fits b k h i = let w = i.within in let m = hsize_most (length b) h in omega arith

-- the links behind a place
linked_behind : (b : List ℕ) (before : ℕ) (front : List ℕ) (prev at : ℕ) (behind : List ℕ) → Linked b before (front ++ prev ∷ at ∷ behind) → Linked b prev (at ∷ behind)
linked_behind b before [] prev at behind l = l.1
linked_behind b before (x ∷ front) prev at behind l = linked_behind b x front prev at behind l.1

module _ (b : List ℕ) (prev at : ℕ) (behind : List ℕ) (f : IsAfter b prev at behind) where
  all_linked : Linked b 0 (f.front ++ prev ∷ at ∷ behind)
  all_linked = let P : List ℕ → Type 0 = λ l. Linked b 0 l in subst P f.chain_is (f.holds.links f.head f.is_head)

  pub link_after : bit_xor prev (get4 b at) ≡ first behind
  link_after = ap (bit_xor prev) (linked_behind b 0 f.front prev at behind all_linked).0 ∙ xor_front prev (first behind)

-- a place of a chain lies in the block
fits_behind : (b : List ℕ) (x : ℕ) (ls front : List ℕ) (prev at : ℕ) (behind : List ℕ) → InBlock b ls → x ∷ ls ≡ front ++ prev ∷ at ∷ behind → at + 4 ≤ length b
fits_behind b x ls [] prev at behind i e =
    let P : List ℕ → Type 0 = λ l. InBlock b l in
    let w = (subst P (ap (λ l. drop 1 l) e) i).1 in
    omega (arith, w)
fits_behind b x [] (y ∷ front) prev at behind i e = absurd (too_long front (ap (λ l. length l) e))
  where
    too_long : (front : List ℕ) → 1 ≡ length (y ∷ (front ++ prev ∷ at ∷ behind)) → ⊥
    too_long [] h = omega arith
    too_long (z ∷ front) h = omega arith
fits_behind b x (z ∷ ls) (y ∷ front) prev at behind i e = fits_behind b z ls front prev at behind i.2 (ap (λ l. drop 1 l) e)

pub after_fits : (b : List ℕ) (prev at : ℕ) (behind : List ℕ) → IsAfter b prev at behind → at + 4 ≤ length b
after_fits b prev at behind f = fits_behind b f.head (chain (length b) f.head f.ps) f.front prev at behind (bucket_of_block b (length b) f.head f.ps f.is_head f.holds).inside f.chain_is
