-- The layout behind the cache, and the cache behind a layout.
use Rattle.std.proofs.Common.{◌≡◌, ℕ, ◌+◌, ◌<◌, ◌≤◌, List, [], ◌∷◌, ◌++◌, length, refl, sym, ◌∙◌, ap, arith, subst}
use Rattle.dc_model.specs.Cache.{Entry, Cache, total, entry_size, hsize, rotated, evicted}
use Rattle.dc_model.specs.Layout.{Place, Holds, end_to_end, Layout, image}
use Rattle.dc_model.proofs.ImageLemmas.{image_is}
use Rattle.std.proofs.lemmas.List.{append-nil}
use Rattle.dc_chain.specs.Chains.{IsTail}
use Rattle.dc_ring.specs.Ring.{cache_of, IsRing}
use Rattle.dc_ring.specs.declared.ArenaStore.TheInside.{Inside}
use Rattle.dc_ring.proofs.Moves.{total_last, rotated_layout, oldest_last, but_last, evicted_some, evicted_none}

pub opened : (a : Inside) (s : Cache) → cache_of a ≡ s → IsRing a → Layout a.chains a.writer a.oldest a.unused s
opened a s e r = let P : Cache → Type 0 = λ c. Layout a.chains a.writer a.oldest a.unused c in subst P e r

-- the bytes of the head links
pub heads_is : (a : Inside) (s : Cache) → cache_of a ≡ s → hsize (length a.chains) ≡ hsize s.size
heads_is a s e = ap (λ (c : Cache). hsize c.size) e

pub sealed_view : (a : Inside) (c : Cache) → a.motion ≡ c.motion → Layout a.chains a.writer a.oldest a.unused c → cache_of a ≡ c
sealed_view a c m l = ap (image a.chains a.writer a.oldest a.unused) m ∙ image_is a.chains a.writer a.oldest a.unused c l

pub sealed : (a : Inside) (c : Cache) → a.motion ≡ c.motion → Layout a.chains a.writer a.oldest a.unused c → IsRing a
sealed a c m l = let P : Cache → Type 0 = λ k. Layout a.chains a.writer a.oldest a.unused k in subst P (sym (sealed_view a c m l)) l

pub rotated_marks : (a : Inside) (s : Cache) (heads : ℕ) → cache_of a ≡ s → IsRing a → heads ≡ hsize (length a.chains) → length s.old ≡ 0 → 0 < length s.young → Layout a.chains heads heads a.writer (rotated s)
rotated_marks a s heads e r h x y =
    let P : ℕ → Type 0 = λ k. Layout a.chains k k a.writer (rotated s) in
    subst P (sym (h ∙ heads_is a s e)) (rotated_layout a.chains a.writer a.oldest a.unused s (opened a s e r) x y)

-- the oldest entry of a store that has one
pub record Oldest (a : Inside) (s : Cache) : Type 0 where
  pub front : List Entry
  pub entry : Entry
  pub split : s.old ≡ front ++ entry ∷ []
  pub within : a.oldest + entry_size entry ≤ a.unused
  pub most : a.unused ≤ 1000000000
  pub rest : List Place
  pub rest_is : rest ≡ end_to_end (hsize s.size) s.young ++ end_to_end (a.oldest + entry_size entry) front
  pub tail : IsTail a.chains a.oldest rest [] (record { at = a.oldest; entry = entry })

pub oldest_of : (a : Inside) (s : Cache) → cache_of a ≡ s → IsRing a → 0 < length s.old → Oldest a s
oldest_of a s e r x =
    let l = opened a s e r in
    let t = but_last s.old x in
    let z : length a.chains ≡ s.size = l.holds.block in
    let m = l.most in let w = l.within in let u = l.oldest_is in
    let sum = ap total t.2 ∙ total_last t.0 t.1 in
    let rest : List Place = end_to_end (hsize s.size) s.young ++ end_to_end (a.oldest + entry_size t.1) t.0 in
    let P : ℕ → Type 0 = λ n. Holds a.chains n (rest ++ record { at = a.oldest; entry = t.1 } ∷ []) in
    record {
      front = t.0;
      entry = t.1;
      split = t.2;
      within = omega (arith, sum);
      most = omega arith;
      rest = rest;
      rest_is = refl;
      tail = record { place_is = refl; last = refl; holds = subst P (sym z) (oldest_last a.chains a.writer a.oldest a.unused s t.0 t.1 l t.2) };
    }

module _ (a : Inside) (s : Cache) (e : cache_of a ≡ s) (r : IsRing a) (o : Oldest a s) (d : List ℕ) (n : length d ≡ length a.chains) (k : Holds d (length d) (o.rest ++ [])) where
  rest_holds : Holds d s.size (end_to_end (hsize s.size) s.young ++ end_to_end (a.oldest + entry_size o.entry) o.front)
  rest_holds =
      let P : List Place → Type 0 = λ l. Holds d (length d) l in
      let Q : ℕ → Type 0 = λ m. Holds d m (end_to_end (hsize s.size) s.young ++ end_to_end (a.oldest + entry_size o.entry) o.front) in
      subst Q (n ∙ (opened a s e r).holds.block) (subst P (append-nil o.rest ∙ o.rest_is) k)

  pub evicted_all : (m : ℕ) → m ≡ length d → a.oldest + entry_size o.entry ≡ a.unused → Layout d a.writer m m (evicted s)
  evicted_all m z q =
      let P : ℕ → Type 0 = λ j. Layout d a.writer j j (evicted s) in
      subst P (sym (z ∙ rest_holds.block)) (evicted_none a.chains d a.writer a.oldest a.unused s o.front o.entry (opened a s e r) o.split rest_holds q)

  pub evicted_one : (m : ℕ) → m ≡ a.oldest + entry_size o.entry → (m ≡ a.unused → ⊥) → Layout d a.writer m a.unused (evicted s)
  evicted_one m z q =
      let P : ℕ → Type 0 = λ j. Layout d a.writer j a.unused (evicted s) in
      subst P (sym z) (evicted_some a.chains d a.writer a.oldest a.unused s o.front o.entry (opened a s e r) o.split rest_holds (λ p. q (z ∙ p)))
