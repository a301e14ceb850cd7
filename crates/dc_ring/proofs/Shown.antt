-- The block and the marks that a store shows.
use Rattle.std.proofs.Common.{◌≡◌, ℕ, ◌≤◌, List, length, replicate, sym, ◌∙◌, ap, arith, subst}
use Rattle.dc_model.specs.Cache.{Cache, hsize, empty}
use Rattle.dc_model.specs.Layout.{Layout}
use Rattle.dc_model.proofs.ImageLemmas.{empty_layout}
use Rattle.dc_ring.specs.Image.{oldest_of, unused_of, IsImage}

pub oldest_is : (b : List ℕ) (w o u : ℕ) (c : Cache) → Layout b w o u c → o ≡ oldest_of c
oldest_is b w o u c l = let x = l.oldest_is in let y = l.unused_is in omega arith

pub layout_shown : (b d : List ℕ) (w o u : ℕ) (c : Cache) → Layout b w o u c → d ≡ b → IsImage d c
layout_shown b d w o u c l e =
    let P : ℕ → Type 0 = λ k. Layout d k (oldest_of c) (unused_of c) c in
    let Q : ℕ → Type 0 = λ k. Layout d w k (unused_of c) c in
    let R : ℕ → Type 0 = λ k. Layout d w o k c in
    let S : List ℕ → Type 0 = λ k. Layout k w o u c in
    subst P l.writer_is (subst Q (oldest_is b w o u c l) (subst R l.unused_is (subst S (sym e) l)))

pub opening : (b : List ℕ) (h n : ℕ) → 100 ≤ n → n ≤ 1000000000 → b ≡ replicate n 0 → h ≡ hsize (length b) → Layout b h n n (empty n)
opening b h n x y e q =
    let z = (empty_layout n x y).holds.block in
    let P : List ℕ → Type 0 = λ d. Layout d h n n (empty n) in
    let Q : ℕ → Type 0 = λ k. Layout (replicate n 0) k n n (empty n) in
    subst P (sym e) (subst Q (sym (q ∙ ap (λ d. hsize (length d)) e ∙ ap hsize z)) (empty_layout n x y))

-- the cache as it is adopted
abbrev pub still : Cache → Cache
still c = record { size = c.size; young = c.young; old = c.old; end = c.end; motion = 0 }

pub still_layout : (b d : List ℕ) (w o u : ℕ) (c : Cache) → Layout b w o u c → d ≡ b → Layout d w o u (still c)
still_layout b d w o u c l e =
    let P : List ℕ → Type 0 = λ k. Layout k w o u (still c) in
    let s : Layout b w o u (still c) = record {
      least = l.least;
      most = l.most;
      writer_is = l.writer_is;
      unused_is = l.unused_is;
      oldest_is = l.oldest_is;
      fits = l.fits;
      within = l.within;
      none_old = l.none_old;
      holds = l.holds;
    } in
    subst P (sym e) s
