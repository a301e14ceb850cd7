-- The sixteen places, one after another.
use Rattle.std.proofs.Common.{◌≡◌, ℕ, zero, suc, ◌+◌, ◌<◌, List, [], ◌∷◌, ◌++◌, length, take, drop, get_or, refl, ap, arith, true, false, ◌&&◌, add-one}
use Rattle.std.proofs.Math.ListN.{set}
use Rattle.dc_model.specs.Places.{is_empty_place, add_address, all_empty}

empty_next : (ps : List (List ℕ)) (i : ℕ) (d : List ℕ) → i < length ps → all_empty (drop i ps) ≡ (is_empty_place (get_or ps i d) && all_empty (drop (suc i) ps))
empty_next [] i d h = absurd (omega arith)
empty_next (p ∷ ps) zero d h = refl
empty_next (p ∷ ps) (suc i) d h = empty_next ps i d (omega arith)

pub empty_more : (ps : List (List ℕ)) (i : ℕ) (d : List ℕ) → i < length ps → true ≡ is_empty_place (get_or ps i d) → all_empty (drop (i + 1) ps) ≡ all_empty (drop i ps)
empty_more ps i d h e = rw (add-one, empty_next ps i d h, ← e) refl

pub empty_not : (ps : List (List ℕ)) (i : ℕ) (d : List ℕ) → i < length ps → false ≡ is_empty_place (get_or ps i d) → all_empty (drop i ps) ≡ false
empty_not ps i d h e = rw (empty_next ps i d h, ← e) refl

pub empty-nil : all_empty [] ≡ true
empty-nil = refl

added_next : (a : List ℕ) (ps : List (List ℕ)) (i : ℕ) (d : List ℕ) → i < length ps → false ≡ is_empty_place (get_or ps i d) → take i ps ++ add_address a (drop i ps) ≡ take (suc i) ps ++ add_address a (drop (suc i) ps)
added_next a [] i d h e = absurd (omega arith)
added_next a (p ∷ ps) zero d h e = rw (← e) refl
added_next a (p ∷ ps) (suc i) d h e = ap (λ zs. p ∷ zs) (added_next a ps i d (omega arith) e)

pub added_more : (a : List ℕ) (ps : List (List ℕ)) (i : ℕ) (d : List ℕ) → i < length ps → false ≡ is_empty_place (get_or ps i d) → take i ps ++ add_address a (drop i ps) ≡ take (i + 1) ps ++ add_address a (drop (i + 1) ps)
added_more a ps i d h e = rw add-one (added_next a ps i d h e)

pub added_here : (a : List ℕ) (ps : List (List ℕ)) (i : ℕ) (d : List ℕ) → i < length ps → true ≡ is_empty_place (get_or ps i d) → take i ps ++ add_address a (drop i ps) ≡ set ps i a
added_here a [] i d h e = absurd (omega arith)
added_here a (p ∷ ps) zero d h e = rw (← e) refl
added_here a (p ∷ ps) (suc i) d h e = ap (λ zs. p ∷ zs) (added_here a ps i d (omega arith) e)

pub added-nil : (a : List ℕ) → add_address a [] ≡ []
added-nil a = refl

pub ruleset places = (empty_more, empty_not, empty-nil, added_more, added_here, added-nil)
