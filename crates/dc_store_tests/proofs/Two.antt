-- A block that holds two entries of one bucket.
use Rattle.std.proofs.Common.{◌≡◌, ℕ, List, [], ◌∷◌, length, refl, ap, subst}
use Rattle.std.proofs.lemmas.Bool.{eq-eqb}
use Rattle.dc_model.specs.Cache.{bucket}
use Rattle.dc_model.specs.Layout.{IsHead, chain, Holds}
use Rattle.dc_model.proofs.SizeLemmas.{bucket_head}
use Rattle.dc_chain.specs.Chains.{place, IsTail, IsAfter}

pub is_head : (b : List ℕ) (head : ℕ) (key : List ℕ) → bucket (length b) key ≡ head → IsHead (length b) head
is_head b head key e = let P : ℕ → Type 0 = λ k. IsHead (length b) k in subst P e (bucket_head (length b) key)

module _ (b : List ℕ) (head older newer : ℕ) (k1 k2 body : List ℕ) (e1 : bucket (length b) k1 ≡ head) (e2 : bucket (length b) k2 ≡ head) (h : Holds b (length b) (place newer k2 body 9 ∷ place older k1 body 9 ∷ [])) where
  the_chain : chain (length b) head (place newer k2 body 9 ∷ place older k1 body 9 ∷ []) ≡ newer ∷ older ∷ []
  the_chain = rw (eq-eqb _ _ e2, eq-eqb _ _ e1) refl

  pub after_head : IsAfter b head newer (older ∷ [])
  after_head = record {
    ps = place newer k2 body 9 ∷ place older k1 body 9 ∷ [];
    holds = h;
    head = head;
    is_head = is_head b head k1 e1;
    front = [];
    chain_is = ap (λ (l : List ℕ). head ∷ l) the_chain;
  }

  pub after_newer : IsAfter b newer older []
  after_newer = record {
    ps = place newer k2 body 9 ∷ place older k1 body 9 ∷ [];
    holds = h;
    head = head;
    is_head = is_head b head k1 e1;
    front = head ∷ [];
    chain_is = ap (λ (l : List ℕ). head ∷ l) the_chain;
  }

pub older_is_tail : (b : List ℕ) (older newer : ℕ) (k1 k2 body : List ℕ) → Holds b (length b) (place newer k2 body 9 ∷ place older k1 body 9 ∷ []) → IsTail b older (place newer k2 body 9 ∷ []) [] (place older k1 body 9)
older_is_tail b older newer k1 k2 body h = record { place_is = refl; last = refl; holds = h }
