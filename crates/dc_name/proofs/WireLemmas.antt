-- Names and their bytes.
use Rattle.std.proofs.Common.{◌≡◌, ◌≢◌, ℕ, ◌+◌, ◌-◌, ◌<◌, ◌≤◌, suc, Bool, true, false, List, [], ◌∷◌, ◌++◌, length, take, drop, get_or, refl, sym, ◌∙◌, ap, subst, arith, add-one, not, append_assoc, All, Option, Some, None, is_some}
use Rattle.std.proofs.lemmas.List.{length-append, append-nil, length-map, take_all}
use Rattle.std.proofs.lemmas.List.Elements.{All-nil}
use Rattle.std.proofs.Math.Seq.{drop-append_seam, take-append-add}
use Rattle.std.specs.Str.{str_to_ascii_lowercase}
use Rattle.std.specs.Char.{to_ascii_lowercase}
use Rattle.dc_model.specs.Name.{Name, IsName, IsLabel, wire, lower, parent, same, under, NameRefusal, label_refusal, can_push, pushed}
use Rattle.dc_model.proofs.NameLemmas.{name_at-front, head_label, tail_labels, ltb_yes}
use Rattle.dc_model.proofs.ReadLemmas.{length-wire-lower}
use Rattle.dc_model.proofs.DottedLemmas.{lower-IsName, parent-IsName, pushed-IsName}
use Rattle.dc_model.proofs.ZoneLemmas.{same_means, same_from, under_means, under_from}
use Rattle.dc_name.specs.Wire.{name_of, IsWire, IsPushed}

-- a name's bytes are of that name
pub name_of-wire : (n : Name) → IsName n → name_of (wire n) ≡ n
unfolding name_of
name_of-wire n h = rw (name_at-front n (wire n) [] 0 h (sym (append-nil (wire n)))) refl

pub IsWire-wire : (n : Name) → IsName n → IsWire (wire n)
IsWire-wire n h =
    let e : n ≡ name_of (wire n) = sym (name_of-wire n h) in
    record { name = subst (λ m. IsName m) e h; bytes = ap wire e }

-- bytes that are a name's
pub IsWire-of : (bs : List ℕ) (n : Name) → IsName n → bs ≡ wire n → IsWire bs
IsWire-of bs n h e = subst (λ x. IsWire x) (sym e) (IsWire-wire n h)

pub name_of-is : (bs : List ℕ) (n : Name) → IsName n → bs ≡ wire n → name_of bs ≡ n
name_of-is bs n h e = ap name_of e ∙ name_of-wire n h

-- names with the same bytes are equal
pub wire-injective : (a b : Name) → IsName a → IsName b → wire a ≡ wire b → a ≡ b
wire-injective a b h k e = sym (name_of-wire a h) ∙ ap name_of e ∙ name_of-wire b k

-- the parts of a name's bytes

pub wire-least : (n : Name) → 1 ≤ length (wire n)
wire-least [] = omega arith
wire-least (l ∷ ls) = omega arith

-- lower case, label by label and byte by byte

small_byte : (n : ℕ) → n ≤ 63 → to_ascii_lowercase n ≡ n
small_byte n h = rw (ltb_yes n 65 (omega arith)) refl

lowered-append : (xs ys : List ℕ) → str_to_ascii_lowercase (xs ++ ys) ≡ str_to_ascii_lowercase xs ++ str_to_ascii_lowercase ys
lowered-append [] ys = refl
lowered-append (x ∷ xs) ys = ap (λ r. to_ascii_lowercase x ∷ r) (lowered-append xs ys)

pub lowered-wire : (n : Name) → All IsLabel n → str_to_ascii_lowercase (wire n) ≡ wire (lower n)
lowered-wire [] h = refl
lowered-wire (l ∷ ls) h =
    let p = head_label l ls h in
    let same_len : length (str_to_ascii_lowercase l) ≡ length l = length-map l to_ascii_lowercase in
    rw (small_byte (length l) p.most, lowered-append l (wire ls), lowered-wire ls (tail_labels l ls h), same_len) refl

-- a test that holds exactly where another does has the same answer
pub same_test : (a b : Bool) → (a ≡ true → b ≡ true) → (b ≡ true → a ≡ true) → a ≡ b
same_test true b f g = sym (f refl)
same_test false true f g = g refl
same_test false false f g = refl

-- names are the same where their bytes are, case aside
pub same-bytes : (a b : List ℕ) → IsWire a → IsWire b → str_to_ascii_lowercase a ≡ str_to_ascii_lowercase b → same (name_of a) (name_of b) ≡ true
same-bytes a b h k e =
    let x = lowered-wire (name_of a) h.name.labels in
    let y = lowered-wire (name_of b) k.name.labels in
    let low : wire (lower (name_of a)) ≡ wire (lower (name_of b)) =
    sym x ∙ sym (ap str_to_ascii_lowercase h.bytes) ∙ e ∙ ap str_to_ascii_lowercase k.bytes ∙ y in
    same_from (name_of a) (name_of b) (wire-injective _ _ (lower-IsName _ h.name) (lower-IsName _ k.name) low)

pub bytes-same : (a b : List ℕ) → IsWire a → IsWire b → same (name_of a) (name_of b) ≡ true → str_to_ascii_lowercase a ≡ str_to_ascii_lowercase b
bytes-same a b h k e =
    let x = lowered-wire (name_of a) h.name.labels in
    let y = lowered-wire (name_of b) k.name.labels in
    ap str_to_ascii_lowercase h.bytes ∙ x ∙ ap wire (same_means (name_of a) (name_of b) e) ∙ sym y ∙ sym (ap str_to_ascii_lowercase k.bytes)

-- the bytes of the name one level up

above-wire : (n : Name) → n ≢ [] → take (length (wire n) - (get_or (wire n) 0 0 + 1)) (drop (get_or (wire n) 0 0 + 1) (wire n)) ≡ wire (parent n)
above-wire [] h = absurd (h refl)
above-wire (l ∷ ls) h =
    let past : drop (length l + 1) (length l ∷ (l ++ wire ls)) ≡ wire ls = rw add-one (drop-append_seam l (wire ls)) in
    let c = length-append l (wire ls) in
    rw past (take_all _ (wire ls) (omega (arith, c)))

pub above-bytes : (bs : List ℕ) → IsWire bs → name_of bs ≢ [] → take (length bs - (get_or bs 0 0 + 1)) (drop (get_or bs 0 0 + 1) bs) ≡ wire (parent (name_of bs))
above-bytes bs h s = subst (λ x. take (length x - (get_or x 0 0 + 1)) (drop (get_or x 0 0 + 1) x) ≡ wire (parent (name_of bs))) (sym h.bytes) (above-wire (name_of bs) s)

above-shorter : (n : Name) → n ≢ [] → length (wire (parent n)) < length (wire n)
above-shorter [] h = absurd (h refl)
above-shorter (l ∷ ls) h = let c = length-append l (wire ls) in omega (arith, c)

-- bytes that are those of the name one level up
pub record IsAbove (bs up : List ℕ) : Type 0 where
  pub name : IsWire up
  pub labels : name_of up ≡ parent (name_of bs)
  pub shorter : length up < length bs

pub above_is : (bs : List ℕ) → IsWire bs → name_of bs ≢ [] → IsAbove bs (take (length bs - (get_or bs 0 0 + 1)) (drop (get_or bs 0 0 + 1) bs))
above_is bs h s =
    let e = above-bytes bs h s in
    let up : IsName (parent (name_of bs)) = parent-IsName (name_of bs) h.name in
    let a = above-shorter (name_of bs) s in
    let len : length (wire (name_of bs)) ≡ length bs = ap (λ l. length l) (sym h.bytes) in
    record { name = IsWire-of _ _ up e; labels = name_of-is _ _ up e; shorter = rw e (omega (arith, a, len)) }

-- a name that is longer than a zone is under it where its parent is
length-wire-lower-front : (front z : Name) (l : List ℕ) → length (wire z) < length (wire ((l ∷ front) ++ z))
length-wire-lower-front [] z l = let c = length-append l (wire z) in omega (arith, c)
length-wire-lower-front (m ∷ front) z l =
    let c = length-append l (wire ((m ∷ front) ++ z)) in
    let h = length-wire-lower-front front z m in
    omega (arith, c, h)

same_size : (n z : Name) → lower n ≡ lower z → length (wire n) ≡ length (wire z)
same_size n z e = sym (length-wire-lower n) ∙ ap (λ m. length (wire m)) e ∙ length-wire-lower z

up_by : (l : List ℕ) (ls z front : Name) → length (wire z) < length (wire (l ∷ ls)) → lower (l ∷ ls) ≡ front ++ lower z → under ls z ≡ true
up_by l ls z [] h e = let s = same_size (l ∷ ls) z e in absurd (omega (arith, h, s))
up_by l ls z (f ∷ fs) h e = under_from ls z fs (ap (λ m. drop 1 m) e)

pub under-parent : (n z : Name) → n ≢ [] → length (wire z) < length (wire n) → under n z ≡ under (parent n) z
under-parent [] z s h = absurd (s refl)
under-parent (l ∷ ls) z s h =
    same_test _ _
    (λ u. let w = under_means (l ∷ ls) z u in up_by l ls z w.0 h w.1)
    (λ u. let w = under_means ls z u in under_from (l ∷ ls) z (str_to_ascii_lowercase l ∷ w.0) (ap (λ m. str_to_ascii_lowercase l ∷ m) w.1))

same_by : (n z front : Name) → length (wire n) ≤ length (wire z) → lower n ≡ front ++ lower z → same n z ≡ true
same_by n z [] h e = same_from n z e
same_by n z (f ∷ fs) h e =
    let a = length-wire-lower-front fs (lower z) f in
    let b : length (wire (lower n)) ≡ length (wire ((f ∷ fs) ++ lower z)) = ap (λ m. length (wire m)) e in
    let c = length-wire-lower n in
    let d = length-wire-lower z in
    absurd (omega (arith, a, b, c, d, h))

-- a name that is no longer than a zone is under it where it is the same
pub under-same : (n z : Name) → length (wire n) ≤ length (wire z) → same n z ≡ under n z
under-same n z h =
    same_test _ _
    (λ s. under_from n z [] (same_means n z s))
    (λ u. let w = under_means n z u in same_by n z w.0 h w.1)

-- a step up, as the walk to a zone takes it

pub longer_not_root : (bs zs : List ℕ) → IsWire bs → IsWire zs → length zs < length bs → name_of bs ≢ []
longer_not_root bs zs h k s e =
    let a : length bs ≡ 1 = ap (λ l. length l) h.bytes ∙ ap (λ n. length (wire n)) e in
    let b = wire-least (name_of zs) in
    let c : length zs ≡ length (wire (name_of zs)) = ap (λ l. length l) k.bytes in
    omega (arith, a, b, c, s)

lengths : (bs zs : List ℕ) → IsWire bs → IsWire zs → (length bs ≡ length (wire (name_of bs))) × (length zs ≡ length (wire (name_of zs)))
lengths bs zs h k = (ap (λ l. length l) h.bytes, ap (λ l. length l) k.bytes)

pub under_above : (bs up zs : List ℕ) → IsWire bs → IsWire zs → name_of up ≡ parent (name_of bs) → length zs < length bs → under (name_of up) (name_of zs) ≡ under (name_of bs) (name_of zs)
under_above bs up zs h k e s =
    let c = lengths bs zs h k in
    ap (λ n. under n (name_of zs)) e ∙ sym (under-parent (name_of bs) (name_of zs) (longer_not_root bs zs h k s) (omega (arith, c.0, c.1, s)))

pub under_here : (bs zs : List ℕ) → IsWire bs → IsWire zs → length bs ≤ length zs → same (name_of bs) (name_of zs) ≡ under (name_of bs) (name_of zs)
under_here bs zs h k s = let c = lengths bs zs h k in under-same (name_of bs) (name_of zs) (omega (arith, c.0, c.1, s))

-- a name with a further label

wire-push : (n : Name) (l : List ℕ) → (take (length (wire n) - 1) (wire n) ++ (length l ∷ l)) ++ (0 ∷ []) ≡ wire (n ++ (l ∷ []))
wire-push [] l = refl
wire-push (m ∷ ms) l =
    let a = length-append m (wire ms) in
    let b = wire-least ms in
    let cut : length (wire (m ∷ ms)) - 1 ≡ suc (length m + (length (wire ms) - 1)) = omega (arith, a, b) in
    let front : take (length (wire (m ∷ ms)) - 1) (wire (m ∷ ms)) ≡ length m ∷ (m ++ take (length (wire ms) - 1) (wire ms)) =
    ap (λ k. take k (wire (m ∷ ms))) cut ∙ ap (λ r. length m ∷ r) (take-append-add m (wire ms) (length (wire ms) - 1)) in
    let more : ((length m ∷ (m ++ take (length (wire ms) - 1) (wire ms))) ++ (length l ∷ l)) ++ (0 ∷ []) ≡ length m ∷ (m ++ ((take (length (wire ms) - 1) (wire ms) ++ (length l ∷ l)) ++ (0 ∷ []))) =
    ap (λ r. length m ∷ r) (ap (λ r. r ++ (0 ∷ [])) (append_assoc m _ _) ∙ append_assoc m _ _) in
    ap (λ r. (r ++ (length l ∷ l)) ++ (0 ∷ [])) front ∙ more ∙ ap (λ r. length m ∷ (m ++ r)) (wire-push ms l)

can_by : (bs : List ℕ) (l : List ℕ) → IsWire bs → label_refusal (length bs) l ≡ None → can_push (name_of bs) l ≡ true
can_by bs l h e =
    let a : label_refusal (length (wire (name_of bs))) l ≡ None = subst (λ x. label_refusal (length x) l ≡ None) h.bytes e in
    ap (λ o. not (is_some o)) a

pub cannot_by : (bs : List ℕ) (l : List ℕ) → IsWire bs → label_refusal (length bs) l ≢ None → can_push (name_of bs) l ≡ false
cannot_by bs l h e = some_by (label_refusal (length (wire (name_of bs))) l) (λ n. e (subst (λ x. label_refusal (length x) l ≡ None) (sym h.bytes) n))
  where
    some_by : (o : Option NameRefusal) → o ≢ None → not (is_some o) ≡ false
    some_by None h = absurd (h refl)
    some_by (Some w) h = refl

pub pushed_is : (bs l new : List ℕ) → IsWire bs → label_refusal (length bs) l ≡ None → new ≡ ((take (length bs - 1) bs ++ (length l ∷ [])) ++ l) ++ (0 ∷ []) → IsPushed bs l new
pushed_is bs l new h r e =
    let can = can_by bs l h r in
    let same : pushed (name_of bs) l ≡ name_of bs ++ (l ∷ []) = rw can refl in
    let is : IsName (name_of bs ++ (l ∷ [])) = subst (λ n. IsName n) same (pushed-IsName (name_of bs) l h.name) in
    let b : new ≡ wire (name_of bs ++ (l ∷ [])) = e ∙ ap (λ x. x ++ (0 ∷ [])) (append_assoc _ (length l ∷ []) l) ∙ ap (λ x. (take (length x - 1) x ++ (length l ∷ l)) ++ (0 ∷ [])) h.bytes ∙ wire-push (name_of bs) l in
    record { can = can; name = IsWire-of new _ is b; labels = name_of-is new _ is b }

pub root-IsName : IsName []
root-IsName = record { labels = All-nil IsLabel; whole = omega arith }

-- the bytes of a name in lower case
pub lowered_is : (bs new : List ℕ) → IsWire bs → new ≡ str_to_ascii_lowercase bs → IsWire new × (name_of new ≡ lower (name_of bs))
lowered_is bs new h e =
    let b : new ≡ wire (lower (name_of bs)) = e ∙ ap str_to_ascii_lowercase h.bytes ∙ lowered-wire (name_of bs) h.name.labels in
    let is = lower-IsName (name_of bs) h.name in
    (IsWire-of new _ is b, name_of-is new _ is b)

-- going up and lowering may change places
pub parent-lower : (n : Name) → parent (lower n) ≡ lower (parent n)
parent-lower [] = refl
parent-lower (l ∷ ls) = refl
