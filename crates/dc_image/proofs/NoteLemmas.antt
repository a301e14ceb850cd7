-- What is noted of an entry, and what that says.
use Rattle.std.proofs.Common.{◌≡◌, ℕ, ◌+◌, ◌-◌, ◌/◌, ◌<◌, List, ◌∷◌, length, get_or, take, drop, sym, ◌∙◌, ap, subst, arith}
use Rattle.std.proofs.Math.ListN.{set}
use Rattle.std.specs.Prelude.{bit_xor}
use Rattle.std.proofs.lemmas.List.{get_or_read}
use Rattle.dc_model.specs.Block.{get4}
use Rattle.dc_model.specs.Cache.{hsize, bucket}
use Rattle.dc_model.specs.Layout.{Place, entry_read}
use Rattle.dc_image.specs.Fronts.{no_front, Fits, AreBehind, AreNoted, place_read}
use Rattle.dc_image.specs.declared.fronts.Front.{Front}
use Rattle.dc_image.specs.declared.fronts.Fronts.{Fronts}
use Rattle.dc_image.proofs.FrontLemmas.{old_front, own_fits, misfit, more_noted}

-- the key of an entry, cut out of the block
pub own_of : (b : List ℕ) (at n head heads : ℕ) → n ≡ get4 b (at + 4) → ((size : ℕ) → heads ≡ hsize size → head ≡ bucket size (take (at + 20 + n - (at + 20)) (drop (at + 20) b))) → heads ≡ hsize (length b)
    → head ≡ bucket (length b) (entry_read b at).key
own_of b at n head heads e h k =
    let m : at + 20 + n - (at + 20) ≡ get4 b (at + 4) = omega (arith, e) in
    h (length b) k ∙ ap (λ x. bucket (length b) (take x (drop (at + 20) b))) m

module _ (b : List ℕ) (at head : ℕ) (ps : List Place) (fs : Fronts) (front : Front) (n : AreNoted b ps fs) (here : head ≡ bucket (length b) (entry_read b at).key) where
  pub index_there : head / 4 < length fs.fronts.items
  index_there = subst (λ k. k / 4 < length fs.fronts.items) (sym here) (own_fits b at ps fs fs n)

  front_is : front ≡ get_or fs.fronts.items (head / 4) front → front ≡ old_front b at ps fs fs
  front_is r = get_or_read fs.fronts.items (head / 4) front index_there r no_front ∙ ap (λ k. get_or fs.fronts.items (k / 4) no_front) here

  pub not_noted : front ≡ get_or fs.fronts.items (head / 4) front → (Fits front at → ⊥) → AreBehind b (place_read b at ∷ ps) → ⊥
  not_noted r unfit = misfit b at ps fs fs n (λ f. unfit (subst (λ x. Fits x at) (sym (front_is r)) f))

  pub noted : (gs : Fronts) (link : ℕ) → front ≡ get_or fs.fronts.items (head / 4) front → Fits front at → 0 < at → link ≡ get4 b at → gs.heads ≡ fs.heads
      → gs.fronts.items ≡ set fs.fronts.items (head / 4) (record { newest = at; awaited = bit_xor link front.newest }) → AreNoted b (place_read b at ∷ ps) gs
  noted gs link r fit real l heads items =
      let e = front_is r in
      more_noted b at ps fs gs n real (subst (λ x. Fits x at) e fit) heads
      (items ∙ (λ i. set fs.fronts.items (here i / 4) (record { newest = at; awaited = bit_xor (l i) ((e i).newest) })))
