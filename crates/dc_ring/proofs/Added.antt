-- An entry is added.
use Rattle.std.proofs.Common.{◌≡◌, ℕ, ◌+◌, ◌-◌, ◌≤◌, true, nat_le, List, [], ◌∷◌, ◌++◌, length, refl, sym, ◌∙◌, ◌↔◌, ap, arith, subst, inl, inr}
use Rattle.std.proofs.lemmas.Bool.{leb-true}
use Rattle.std.proofs.lemmas.Bool.Decides.{nat_tests}
use Rattle.dc_model.specs.Cache.{Entry, Cache, total, entry_size, hsize, bucket, has_room, added}
use Rattle.dc_model.specs.Layout.{Place, ClearOf, Stands, Holds}
use Rattle.dc_model.specs.Layout.{end_to_end, Layout}
use Rattle.dc_chain.specs.Chains.{IsFresh}
use Rattle.dc_ring.specs.Ring.{cache_of, IsRing}
use Rattle.dc_ring.specs.declared.ArenaStore.TheInside.{Inside}
use Rattle.dc_ring.proofs.Seal.{opened}

clear_both : (p : Place) (ps qs : List Place) → ClearOf p ps → ClearOf p qs → ClearOf p (ps ++ qs)
clear_both p [] qs c d = d
clear_both p (x ∷ ps) qs c d = (c.0, clear_both p ps qs c.1 d)

clear_after : (p : Place) (base : ℕ) (es : List Entry) → base + total es ≤ p.at → ClearOf p (end_to_end base es)
clear_after p base [] h = tt
clear_after p base (e ∷ es) h = (inr (omega arith), clear_after p base es (omega arith))

clear_before : (p : Place) (base : ℕ) (es : List Entry) → p.at + entry_size p.entry ≤ base → ClearOf p (end_to_end base es)
clear_before p base [] h = tt
clear_before p base (e ∷ es) h = (inl (omega arith), clear_before p base es h)

pub room_fits : (b : List ℕ) (w o u : ℕ) (c : Cache) (n : ℕ) → Layout b w o u c → has_room c n ≡ true → w + n ≤ o
room_fits b w o u c n h r =
    let l = leb-true _ _ r in
    let a = h.writer_is in let d = h.unused_is in let e = h.oldest_is in let f = h.fits in
    omega arith

pub free : (b : List ℕ) (w o u : ℕ) (c : Cache) (e : Entry) → Layout b w o u c → has_room c (entry_size e) ≡ true → ClearOf (record { at = w; entry = e }) (end_to_end (hsize c.size) c.young ++ end_to_end o c.old)
free b w o u c e h r =
    let f = room_fits b w o u c (entry_size e) h r in
    let a = h.writer_is in
    clear_both (record { at = w; entry = e }) (end_to_end (hsize c.size) c.young) (end_to_end o c.old) (clear_after (record { at = w; entry = e }) (hsize c.size) c.young (omega arith)) (clear_before (record { at = w; entry = e }) o c.old f)

pub added_layout : (b d : List ℕ) (w o u : ℕ) (c : Cache) (e : Entry) → Layout b w o u c → has_room c (entry_size e) ≡ true
    → Holds d c.size (record { at = w; entry = e } ∷ (end_to_end (hsize c.size) c.young ++ end_to_end o c.old)) → Layout d (w + entry_size e) o u (added e c)
added_layout b d w o u c e h r k =
    let f = room_fits b w o u c (entry_size e) h r in
    let a = h.writer_is in
    let P : ℕ → Type 0 = λ x. Holds d c.size (record { at = x; entry = e } ∷ (end_to_end (hsize c.size) c.young ++ end_to_end o c.old)) in
    record {
      least = h.least;
      most = h.most;
      writer_is = omega arith;
      unused_is = h.unused_is;
      oldest_is = h.oldest_is;
      fits = f;
      within = h.within;
      none_old = h.none_old;
      holds = subst P a k;
    }

same_leb : (a b c d : ℕ) → (a ≤ b → c ≤ d) → (c ≤ d → a ≤ b) → (nat_le a b) ≡ (nat_le c d)
same_leb a b c d f g = grind (arith, nat_tests)

pub room_test : (b : List ℕ) (w o u : ℕ) (c : Cache) (n : ℕ) → Layout b w o u c → (nat_le (w + n) o) ≡ has_room c n
room_test b w o u c n h =
    let a = h.writer_is in let d = h.unused_is in let e = h.oldest_is in let f = h.fits in
    same_leb (w + n) o (total c.young + n) (c.end - total c.old) (λ z. omega arith) (λ z. omega arith)

none_total : (es : List Entry) → (total es ≡ 0) ↔ (length es ≡ 0)
none_total [] = (λ h. refl, λ h. refl)
none_total (e ∷ es) = (λ h. absurd (omega arith), λ h. absurd (omega arith))

pub old_test : (b : List ℕ) (w o u : ℕ) (c : Cache) → Layout b w o u c → (o ≡ u) ↔ (length c.old ≡ 0)
old_test b w o u c h = let e = h.oldest_is in let t = none_total c.old in (λ z. t.0 (omega arith), λ z. let y = t.1 z in omega arith)

pub young_test : (b : List ℕ) (w o u k : ℕ) (c : Cache) → Layout b w o u c → k ≡ hsize c.size → (w ≡ k) ↔ (length c.young ≡ 0)
young_test b w o u k c h q = let e = h.writer_is in let t = none_total c.young in (λ z. t.0 (omega arith), λ z. let y = t.1 z in omega arith)

abbrev pub others : Inside → Cache → List Place
others a s = end_to_end (hsize s.size) s.young ++ end_to_end a.oldest s.old

module _ (a : Inside) (s : Cache) (e : Entry) (v : cache_of a ≡ s) (r : IsRing a) (room : has_room s (entry_size e) ≡ true) where
  pub before : Holds a.chains (length a.chains) (others a s)
  before = let l = opened a s v r in let P : ℕ → Type 0 = λ n. Holds a.chains n (others a s) in subst P (sym l.holds.block) l.holds

  pub behind : hsize (length a.chains) ≤ a.writer
  behind = let l = opened a s v r in let w = l.writer_is in let h = ap hsize l.holds.block in omega arith

  pub fits : a.writer + entry_size e ≤ length a.chains
  fits =
      let l = opened a s v r in
      let f = room_fits a.chains a.writer a.oldest a.unused s (entry_size e) l room in
      let o = l.oldest_is in let u = l.within in let z = l.holds.block in
      omega arith

  pub small : length a.chains ≤ 1000000000
  small = let l = opened a s v r in let m = l.most in let z = l.holds.block in omega arith

  pub clear : ClearOf (record { at = a.writer; entry = e }) (others a s)
  clear = free a.chains a.writer a.oldest a.unused s e (opened a s v r) room

  pub fresh : (d : List ℕ) (head : ℕ) → Stands d (length d) (record { at = a.writer; entry = e }) → Holds d (length d) (others a s) → head ≡ bucket (length d) e.key
      → IsFresh d head a.writer (others a s) (record { at = a.writer; entry = e })
  fresh d head t k q = record { place_is = refl; bucket_is = sym q; stands = t; clear = clear; holds = k }

  pub added_all : (d : List ℕ) → length d ≡ length a.chains → Holds d (length d) (record { at = a.writer; entry = e } ∷ others a s) → Layout d (a.writer + entry_size e) a.oldest a.unused (added e s)
  added_all d z k =
      let l = opened a s v r in
      let P : ℕ → Type 0 = λ j. Holds d j (record { at = a.writer; entry = e } ∷ others a s) in
      added_layout a.chains d a.writer a.oldest a.unused s e l room (subst P (z ∙ l.holds.block) k)
