-- What was taken of a source, and what that says of an image.
use Rattle.std.proofs.Common.{◌≡◌, ℕ, ◌+◌, ◌<◌, ◌≤◌, List, [], ◌++◌, length, take, drop, refl, sym, ◌∙◌, ap, subst, arith, ⊎_elim, length-append, length-drop, ◌∷◌}
use Rattle.std.specs.declared.option.Option.{Option}
use Rattle.std.specs.declared.option.Option.TheVariants.{None, Some}
use Rattle.std.specs.Io.KnownBytes.{IsAtEnd}
use Rattle.std.specs.Int.{from_be_bytes, w32}
use Rattle.std.proofs.lemmas.List.{append-nil}
use Rattle.std.proofs.lemmas.List.{drop-append-le}
use Rattle.std.proofs.Math.Seq.{drop-append_seam}
use lib.Seq.{take-append-le}
use Rattle.dc_model.specs.Block.{part}
use Rattle.dc_model.specs.Cache.{Cache}
use Rattle.dc_image.specs.Gathered.{HasLayout}
use Rattle.dc_image.specs.Image.{Marked, IsImage, IsLaid, signature, word_at, marks_in, block_in}
use Rattle.dc_image.specs.Loaded.{MayFollow, IsNoImage, IsHeadOf, Refuses, Loads, Adopts, TakesBlock, TakesEnd, well_loaded}
use Rattle.dc_event.specs.Causes.{Fares}
use Rattle.dc_image.specs.declared.load.ImageError.{ImageError}
use Rattle.dc_image.specs.declared.load.ImageError.TheVariants.{Empty, Bad, ReadFault, NoMemory}
use Rattle.std.specs.Prelude.{Ok, Err, Result}

-- Bytes in front of others

front_part : (xs ys : List ℕ) (at n : ℕ) → at + n ≤ length xs → part (xs ++ ys) at n ≡ part xs at n
front_part xs ys at n h =
    ap (take n) (drop-append-le at xs ys (omega (arith, h))) ∙ take-append-le n (drop at xs) ys (omega (arith, h, length-drop at xs))

front_word : (xs ys : List ℕ) (at : ℕ) → at + 4 ≤ length xs → word_at (xs ++ ys) at ≡ word_at xs at
front_word xs ys at h = ap (from_be_bytes w32) (front_part xs ys at 4 h)

front_marks : (xs ys : List ℕ) → length xs ≡ 24 → marks_in (xs ++ ys) ≡ marks_in xs
unfolding marks_in
front_marks xs ys h = λ i. record {
  writer = front_word xs ys 12 (omega (arith, h)) i;
  oldest = front_word xs ys 16 (omega (arith, h)) i;
  unused = front_word xs ys 20 (omega (arith, h)) i;
}

behind : (xs ys : List ℕ) → length xs ≡ 24 → block_in (xs ++ ys) ≡ ys
unfolding block_in
behind xs ys h = ap (λ n. drop n (xs ++ ys)) (sym h) ∙ drop-append_seam xs ys

-- Images

nothing_left : (left : Option (List ℕ)) (tail : List ℕ) → IsAtEnd left → MayFollow left tail → tail ≡ []
nothing_left None tail e m = ⊎_elim (λ (h : None ≡ Some tail). cc) (λ (h : tail ≡ []). h) m
nothing_left (Some xs) tail e m = ⊎_elim (λ (h : Some xs ≡ Some tail). cc) (λ (h : tail ≡ []). h) m

pub too_short : (size : ℕ) (bytes : List ℕ) (left : Option (List ℕ)) → length bytes < 24 + size → IsAtEnd left → IsNoImage size bytes left
too_short size bytes left h e tail c m i =
    let t : length tail ≡ 0 = ap length (nothing_left left tail e m) in
    absurd (omega (arith, h, t, i.whole, length-append bytes tail))

pub too_long : (size : ℕ) (bytes : List ℕ) (left : Option (List ℕ)) → 24 + size < length bytes → IsNoImage size bytes left
too_long size bytes left h tail c m i = absurd (omega (arith, h, i.whole, length-append bytes tail))

pub not_headed : (size : ℕ) (head : List ℕ) (left : Option (List ℕ)) → length head ≡ 24 → (take 8 head ≡ signature → word_at head 8 ≡ size → ⊥) → IsNoImage size head left
not_headed size head left h not tail c m i =
    not (sym (take-append-le 8 head tail (omega (arith, h))) ∙ i.signed) (sym (front_word head tail 8 (omega (arith, h))) ∙ i.sized)

module _ (size : ℕ) (head block : List ℕ) (m : Marked) (h : IsHeadOf size head m) (long : length block ≡ size) where
  pub is_image : (c : Cache) → IsLaid block m c → IsImage size (head ++ block) c
  is_image c l = record {
    signed = take-append-le 8 head block (let k = h.long in omega (arith, k)) ∙ h.signed;
    sized = front_word head block 8 (let k = h.long in omega (arith, k)) ∙ h.sized;
    whole = length-append head block ∙ (λ i. h.long i + long i);
    laid = subst (λ n. IsLaid (block_in (head ++ block)) n c) (sym (front_marks head block h.long ∙ h.marks)) (subst (λ b. IsLaid b m c) (sym (behind head block h.long)) l);
  }

  no_tail : (tail : List ℕ) (c : Cache) → IsImage size ((head ++ block) ++ tail) c → tail ≡ []
  no_tail [] c i = refl
  no_tail (x ∷ tail) c i = absurd (omega (arith, h.long, long, i.whole, length-append (head ++ block) (x ∷ tail), length-append head block))

  pub not_laid : (left : Option (List ℕ)) → (HasLayout block m → ⊥) → IsNoImage size (head ++ block) left
  not_laid left not tail c f i =
      let e : (head ++ block) ++ tail ≡ head ++ block = ap (λ t. (head ++ block) ++ t) (no_tail tail c i) ∙ append-nil (head ++ block) in
      let j : IsImage size (head ++ block) c = subst (λ b. IsImage size b c) e i in
      not (c, subst (λ n. IsLaid block n c) (front_marks head block h.long ∙ h.marks) (subst (λ b. IsLaid b (marks_in (head ++ block)) c) (behind head block h.long) j.laid))

-- A layout of a cache is one of that cache at rest.
pub laid_at_rest : (block : List ℕ) (m : Marked) (c : Cache) → IsLaid block m c → IsLaid block m (record { size = c.size; young = c.young; old = c.old; end = c.end; motion = 0 })
laid_at_rest block m c l = record {
  least = l.least;
  most = l.most;
  writer_is = l.writer_is;
  unused_is = l.unused_is;
  oldest_is = l.oldest_is;
  fits = l.fits;
  within = l.within;
  none_old = l.none_old;
  holds = l.holds;
}

-- Refusals behind a head, and behind head and block

some_byte : (xs ys : List ℕ) → length xs ≡ 24 → xs ++ ys ≡ [] → ⊥
some_byte xs ys h e = let n : length (xs ++ ys) ≡ 0 = ap length e in omega (arith, h, n, length-append xs ys)

pub block_refused : (size : ℕ) (head bytes : List ℕ) (left : Option (List ℕ)) (m : Marked) (e : ImageError) → IsHeadOf size head m → TakesBlock size bytes left (Err e)
    → Refuses size (head ++ bytes) left e × (length (head ++ bytes) ≤ 24 + size + 1)
block_refused size head bytes left m Empty h t = absurd t
block_refused size head bytes left m Bad h t =
    let n : length (head ++ bytes) ≡ length head + length bytes = length-append head bytes in
    let k = h.long in
    ((some_byte head bytes h.long, too_short size (head ++ bytes) left (omega (arith, n, k, t.0)) t.1), omega (arith, n, k, t.0))
block_refused size head bytes left m ReadFault h t =
    let n : length (head ++ bytes) ≡ length head + length bytes = length-append head bytes in
    let k = h.long in (tt, omega (arith, n, k, t))
block_refused size head bytes left m NoMemory h t =
    let n : length (head ++ bytes) ≡ length head + length bytes = length-append head bytes in
    let z : length bytes ≡ 0 = ap length t in
    let k = h.long in (tt, omega (arith, n, k, z))

pub end_refused : (size : ℕ) (head block bytes : List ℕ) (left : Option (List ℕ)) (m : Marked) (e : ImageError) → IsHeadOf size head m → length block ≡ size → TakesEnd bytes left (Err e)
    → Refuses size (head ++ (block ++ bytes)) left e × (length (head ++ (block ++ bytes)) ≤ 24 + size + 1)
end_refused size head block bytes left m Empty h l t = absurd t
end_refused size head block bytes left m Bad h l t =
    let n : length (head ++ (block ++ bytes)) ≡ length head + length (block ++ bytes) = length-append head (block ++ bytes) in
    let o : length (block ++ bytes) ≡ length block + length bytes = length-append block bytes in
    let k = h.long in
    ((some_byte head (block ++ bytes) h.long, too_long size (head ++ (block ++ bytes)) left (omega (arith, n, o, k, l, t))), omega (arith, n, o, k, l, t))
end_refused size head block bytes left m ReadFault h l t =
    let n : length (head ++ (block ++ bytes)) ≡ length head + length (block ++ bytes) = length-append head (block ++ bytes) in
    let o : length (block ++ bytes) ≡ length block + length bytes = length-append block bytes in
    let z : length bytes ≡ 0 = ap length t in
    let k = h.long in (tt, omega (arith, n, o, k, l, z))
end_refused size head block bytes left m NoMemory h l t = absurd t

pub all_taken : (size : ℕ) (head block bytes : List ℕ) (m : Marked) → IsHeadOf size head m → length block ≡ size → bytes ≡ [] → (head ++ (block ++ bytes) ≡ head ++ block) × (length (head ++ (block ++ bytes)) ≤ 24 + size + 1)
all_taken size head block bytes m h l e =
    let n : length (head ++ (block ++ bytes)) ≡ length head + length (block ++ bytes) = length-append head (block ++ bytes) in
    let o : length (block ++ bytes) ≡ length block + length bytes = length-append block bytes in
    let z : length bytes ≡ 0 = ap length e in
    let k = h.long in (ap (λ t. head ++ (block ++ t)) e ∙ ap (λ t. head ++ t) (append-nil block), omega (arith, n, o, k, l, z))

-- Adopted, or not

pub loaded : (size : ℕ) (head block : List ℕ) (left : Option (List ℕ)) (m : Marked) (r : Result Cache ImageError) → IsHeadOf size head m → length block ≡ size → IsAtEnd left → Adopts block m r
    → Loads size (head ++ block) left r
loaded size head block left m (Ok c) h l e a = (is_image size head block m h l c a.0, a.1, e)
loaded size head block left m (Err Empty) h l e a = absurd a
loaded size head block left m (Err Bad) h l e a = (some_byte head block h.long, not_laid size head block m h l left a)
loaded size head block left m (Err ReadFault) h l e a = absurd a
loaded size head block left m (Err NoMemory) h l e a = tt

pub fares_adopted : {I : Type 0} (took : I → List ℕ → I → Type 0) (refused : I → I → Type 0) (faults : I → ℕ) (old new : I) (block : List ℕ) (m : Marked) (r : Result Cache ImageError)
    → faults new ≡ faults old → Adopts block m r → Fares took refused faults (well_loaded r) old new
fares_adopted took refused faults old new block m (Ok c) f a = f
fares_adopted took refused faults old new block m (Err Empty) f a = absurd a
fares_adopted took refused faults old new block m (Err Bad) f a = f
fares_adopted took refused faults old new block m (Err ReadFault) f a = absurd a
fares_adopted took refused faults old new block m (Err NoMemory) f a = f
