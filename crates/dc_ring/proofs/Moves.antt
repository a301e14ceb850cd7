-- The marks and the block as entries leave.
use Rattle.std.proofs.Common.{◌≡◌, ℕ, ◌+◌, ◌-◌, ◌<◌, if◌then◌else◌, ◌==◌, List, [], ◌∷◌, ◌++◌, length, take, refl, sym, ◌∙◌, ap, arith, subst, append_assoc}
use Rattle.std.proofs.lemmas.List.{length-append}
use Rattle.std.proofs.Math.Seq.{take-append_seam}
use Rattle.std.proofs.lemmas.Bool.{eq-eqb, ne_eqb}
use Rattle.dc_model.specs.Cache.{Entry, Cache, total, entry_size, hsize, capacity, rotated, evicted}
use Rattle.dc_model.proofs.SizeLemmas.{hsize_most}
use Rattle.dc_model.specs.Layout.{Place, Holds}
use Rattle.dc_model.specs.Layout.{end_to_end, Layout}

none_of : (es : List Entry) → length es ≡ 0 → es ≡ []
none_of [] h = refl
none_of (e ∷ es) h = absurd (omega arith)

no_more : (ps : List Place) → ps ++ [] ≡ ps
no_more [] = refl
no_more (p ∷ ps) = ap (λ (l : List Place). p ∷ l) (no_more ps)

pub rotated_layout : (b : List ℕ) (w o u : ℕ) (c : Cache) → Layout b w o u c → length c.old ≡ 0 → 0 < length c.young → Layout b (hsize c.size) (hsize c.size) w (rotated c)
rotated_layout b w o u c h x y =
    let wi = h.writer_is in let oi = h.oldest_is in let f = h.fits in let ui = h.within in
    let P : List Entry → Type 0 = λ l. Holds b c.size (end_to_end (hsize c.size) c.young ++ end_to_end o l) in
    let Q : List Place → Type 0 = λ l. Holds b c.size l in
    record {
      least = h.least;
      most = h.most;
      writer_is = omega arith;
      unused_is = wi;
      oldest_is = sym wi;
      fits = omega arith;
      within = omega arith;
      none_old = λ e. let z = ap length e in absurd (omega arith);
      holds = subst Q (no_more (end_to_end (hsize c.size) c.young)) (subst P (none_of c.old x) h.holds);
    }

pub but_last : (xs : List Entry) → 0 < length xs → (es : List Entry) × (e : Entry) × (xs ≡ es ++ e ∷ [])
but_last [] h = absurd (omega arith)
but_last (x ∷ []) h = ([], x, refl)
but_last (x ∷ (y ∷ ys)) h = let r = but_last (y ∷ ys) (omega arith) in (x ∷ r.0, r.1, ap (λ (l : List Entry). x ∷ l) r.2)

pub total_last : (es : List Entry) (e : Entry) → total (es ++ e ∷ []) ≡ total es + entry_size e
total_last [] e = omega arith
total_last (x ∷ es) e = let h = total_last es e in omega arith

pub placed_last : (o : ℕ) (es : List Entry) (e : Entry) → end_to_end o (es ++ e ∷ []) ≡ end_to_end (o + entry_size e) es ++ record { at = o; entry = e } ∷ []
placed_last o [] e = let z : o + 0 ≡ o = omega arith in λ i. record { at = z i; entry = e } ∷ []
placed_last o (x ∷ es) e =
    let z : o + total (es ++ e ∷ []) ≡ o + entry_size e + total es = let t = total_last es e in omega arith in
    λ i. record { at = z i; entry = x } ∷ placed_last o es e i

-- the block with the oldest entry last
pub oldest_last : (b : List ℕ) (w o u : ℕ) (c : Cache) (es : List Entry) (e : Entry) → Layout b w o u c → c.old ≡ es ++ e ∷ []
    → Holds b c.size ((end_to_end (hsize c.size) c.young ++ end_to_end (o + entry_size e) es) ++ record { at = o; entry = e } ∷ [])
oldest_last b w o u c es e h q =
    let P : List Place → Type 0 = λ l. Holds b c.size l in
    subst P ((λ i. end_to_end (hsize c.size) c.young ++ (ap (end_to_end o) q ∙ placed_last o es e) i)
    ∙ sym (append_assoc (end_to_end (hsize c.size) c.young) (end_to_end (o + entry_size e) es) (record { at = o; entry = e } ∷ []))) h.holds

no_entries : (es : List Entry) → length es ≡ 0 → total es ≡ 0
no_entries [] h = refl
no_entries (e ∷ es) h = absurd (omega arith)

none_total : (es : List Entry) → total es ≡ 0 → es ≡ []
none_total [] h = refl
none_total (e ∷ es) h = absurd (omega arith)

module _ (b d : List ℕ) (w o u : ℕ) (c : Cache) (es : List Entry) (e : Entry) (h : Layout b w o u c) (q : c.old ≡ es ++ e ∷ []) (k : Holds d c.size (end_to_end (hsize c.size) c.young ++ end_to_end (o + entry_size e) es)) where
  kept : take (length c.old - 1) c.old ≡ es
  kept =
      let l = length-append es (e ∷ []) in
      let m = ap length q in
      let n : length c.old - 1 ≡ length es = omega arith in
      (λ i. take (n i) (q i)) ∙ take-append_seam es (e ∷ [])

  sum : total c.old ≡ total es + entry_size e
  sum = ap total q ∙ total_last es e

  pub evicted_some : (o + entry_size e ≡ u → ⊥) → Layout d w (o + entry_size e) u (evicted c)
  evicted_some n =
      let P : List Entry → Type 0 = λ l. Holds d c.size (end_to_end (hsize c.size) c.young ++ end_to_end (o + entry_size e) l) in
      let s = sum in let oi = h.oldest_is in let f = h.fits in
      let l = length-append es (e ∷ []) in
      let m = ap length q in
      let many : length c.old ≡ 1 → ⊥ = λ z. let y : length es ≡ 0 = omega arith in n (let t = no_entries es y in omega arith) in
      let end : (if (length c.old == 1) then capacity c.size else c.end) ≡ c.end = ap (λ t. (if t then capacity c.size else c.end)) (ne_eqb _ _ many) in
      record {
        least = h.least;
        most = h.most;
        writer_is = h.writer_is;
        unused_is = h.unused_is ∙ ap (λ z. hsize c.size + z) (sym end);
        oldest_is = ap (λ z. o + entry_size e + total z) kept ∙ omega arith;
        fits = omega arith;
        within = h.within;
        none_old = λ z. let y : es ≡ [] = sym kept ∙ z in let t = ap total y in absurd (n (omega arith));
        holds = subst P (sym kept) k;
      }

  pub evicted_none : o + entry_size e ≡ u → Layout d w c.size c.size (evicted c)
  evicted_none n =
      let s = sum in let oi = h.oldest_is in let f = h.fits in let ui = h.within in
      let y : es ≡ [] = none_total es (omega arith) in
      let P : List Entry → Type 0 = λ l. Holds d c.size (end_to_end (hsize c.size) c.young ++ end_to_end (o + entry_size e) l) in
      let Q : List Entry → Type 0 = λ l. Holds d c.size (end_to_end (hsize c.size) c.young ++ end_to_end c.size l) in
      let l = length-append es (e ∷ []) in
      let m = ap length q in
      let z = ap length y in
      let one : length c.old ≡ 1 = omega arith in
      let end : (if (length c.old == 1) then capacity c.size else c.end) ≡ capacity c.size = ap (λ t. (if t then capacity c.size else c.end)) (eq-eqb _ _ one) in
      let big = hsize_most c.size h.least in
      record {
        least = h.least;
        most = h.most;
        writer_is = h.writer_is;
        unused_is = omega (arith, end);
        oldest_is = ap (λ x. c.size + total x) (kept ∙ y) ∙ omega arith;
        fits = omega arith;
        within = omega arith;
        none_old = λ _. refl;
        holds = subst Q (sym (kept ∙ y)) (subst P y k);
      }
