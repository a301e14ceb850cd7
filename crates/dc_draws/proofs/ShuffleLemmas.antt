-- The steps of a shuffle.
use Rattle.std.proofs.Common.{◌≡◌, ℕ, ◌+◌, ◌-◌, ◌%◌, ◌<◌, suc, List, length, drop, take, refl, arith, get_or, ◌∙◌}
use Rattle.std.specs.Prelude.{swap}
use Rattle.std.proofs.lemmas.List.{drop_more, get_or-take}
use Rattle.dc_model.specs.Draws.{shuffled_below}

one_swap : (k i : ℕ) (ds : List ℕ) (places after : List (List ℕ)) → i < length ds
    → after ≡ swap places (get_or ds i 0 % (k + 2)) (k + 1)
    → shuffled_below k (drop (i + 1) ds) after ≡ shuffled_below (suc k) (drop i ds) places
one_swap k i ds places after h e = rw (drop_more ds i 0 h, e) refl

-- After the swap of the place that draw i is for, the draws behind it shuffle the rest.
pub shuffled_below-more : (i : ℕ) (ds : List ℕ) (places after : List (List ℕ)) → i < 15 → i < length ds
    → after ≡ swap places (get_or (take 15 ds) i 0 % (16 - i)) (16 - i - 1)
    → shuffled_below (15 - (i + 1)) (drop (i + 1) ds) after ≡ shuffled_below (15 - i) (drop i ds) places
shuffled_below-more i ds places after small h e =
    let k : ℕ = 15 - (i + 1) in
    let first : 16 - i ≡ k + 2 = omega arith in
    let second : 16 - i - 1 ≡ k + 1 = omega arith in
    let whole : 15 - i ≡ suc k = omega arith in
    let draw : get_or (take 15 ds) i 0 ≡ get_or ds i 0 = get_or-take 15 ds i 0 small in
    rw whole (one_swap k i ds places after h (e ∙ rw (draw, second, first) refl))
