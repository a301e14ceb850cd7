-- Entries that come into a chain and leave it.
use Rattle.std.specs.Prelude.{◌≡◌, ℕ, zero, suc, if◌then◌else◌, List, [], ◌∷◌, ◌++◌, length, bytes_eq}
use Rattle.dc_model.specs.Cache.{bucket}
use Rattle.dc_model.specs.Chain.{key_at}
use Rattle.dc_model.specs.Layout.{Place, IsHead, chain, ClearOf, Stands, Holds}

-- an entry and its place
abbrev pub place : ℕ → List ℕ → List ℕ → ℕ → Place
place at key body expiry = record { at = at; entry = record { key = key; body = body; expiry = expiry } }

-- an entry that was written for this bucket, and is in none of the chains
pub record IsFresh (b : List ℕ) (head at : ℕ) (ps : List Place) (p : Place) : Type 0 where
  pub place_is : p.at ≡ at
  pub bucket_is : bucket (length b) p.entry.key ≡ head
  pub stands : Stands b (length b) p
  pub clear : ClearOf p ps
  pub holds : Holds b (length b) ps

-- an entry that is the last of its bucket: none of those behind it is in the same
pub record IsTail (b : List ℕ) (at : ℕ) (before behind : List Place) (p : Place) : Type 0 where
  pub place_is : p.at ≡ at
  pub last : chain (length b) (bucket (length b) p.entry.key) behind ≡ []
  pub holds : Holds b (length b) (before ++ p ∷ behind)

-- a place in a chain, the one in front of it, and those behind it
pub record IsAfter (b : List ℕ) (prev at : ℕ) (behind : List ℕ) : Type 0 where
  pub ps : List Place
  pub holds : Holds b (length b) ps
  pub head : ℕ
  pub is_head : IsHead (length b) head
  pub front : List ℕ
  pub chain_is : head ∷ chain (length b) head ps ≡ front ++ prev ∷ at ∷ behind

-- how many of the first n entries a look-up reads: up to the first with the key
abbrev pub reads : ℕ → List ℕ → List ℕ → List ℕ → ℕ
reads zero b key ps = 0
reads (suc n) b key [] = 0
reads (suc n) b key (p ∷ ps) = if bytes_eq (key_at b p) key then 1 else suc (reads n b key ps)
