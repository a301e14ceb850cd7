-- What a put does next, by what a store can test.
use Rattle.std.proofs.Common.{◌≡◌, ℕ, zero, suc, ◌<◌, ◌↔◌, IsTrue, Bool, true, false, if◌then◌else◌, List, [], ◌∷◌, length, refl, ◌∙◌, ap, arith}
use Rattle.dc_model.specs.Cache.{Entry, Cache, adds, evicts, rotates, gives_up, turn_empty, turn_of, entry_size, has_room, evicted, rotated, added, placed}
use Rattle.dc_model.proofs.CacheLemmas.{placed_adds, placed_evicts, placed_rotates, placed_gives_up}

evicts_at : (young old : List Entry) → 0 < length old → turn_empty young old ≡ evicts
evicts_at young [] h = absurd (omega arith)
evicts_at young (e ∷ es) h = refl

rotates_at : (young old : List Entry) → length old ≡ 0 → 0 < length young → turn_empty young old ≡ rotates
rotates_at young (e ∷ es) h k = absurd (omega arith)
rotates_at [] [] h k = absurd (omega arith)
rotates_at (e ∷ es) [] h k = refl

gives_up_at : (young old : List Entry) → length old ≡ 0 → length young ≡ 0 → turn_empty young old ≡ gives_up
gives_up_at young (e ∷ es) h k = absurd (omega arith)
gives_up_at [] [] h k = refl
gives_up_at (e ∷ es) [] h k = absurd (omega arith)

module _ (e : Entry) (c : Cache) where
  -- where there is no room, the lists decide
  no_room : has_room c (entry_size e) ≡ false → turn_of e c ≡ turn_empty c.young c.old
  no_room h = ap (λ b. if b then adds else turn_empty c.young c.old) h

  pub placed_room : has_room c (entry_size e) ≡ true → placed e c ≡ added e c
  placed_room h = placed_adds e c (ap (λ b. if b then adds else turn_empty c.young c.old) h)

  pub placed_evict : has_room c (entry_size e) ≡ false → 0 < length c.old → placed e c ≡ placed e (evicted c)
  placed_evict h k = placed_evicts e c (no_room h ∙ evicts_at c.young c.old k)

  pub placed_rotate : has_room c (entry_size e) ≡ false → length c.old ≡ 0 → 0 < length c.young → placed e c ≡ placed e (rotated c)
  placed_rotate h k l = placed_rotates e c (no_room h ∙ rotates_at c.young c.old k l)

  pub placed_none : has_room c (entry_size e) ≡ false → length c.old ≡ 0 → length c.young ≡ 0 → placed e c ≡ c
  placed_none h k l = placed_gives_up e c (no_room h ∙ gives_up_at c.young c.old k l)

-- where a test of "none" fails, there are some
pub unless_none : (b : Bool) (n : ℕ) → (IsTrue b ↔ (n ≡ 0)) → b ≡ false → 0 < n
unless_none b zero h e = absurd (false_true b e (h.1 refl))
  where
    false_true : (b : Bool) → b ≡ false → IsTrue b → ⊥
    false_true b e t = cc
unless_none b (suc n) h e = omega arith
