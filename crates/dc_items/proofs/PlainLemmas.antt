-- Reading a name without pointers, label by label.
use Rattle.std.proofs.Common.{◌≡◌, ℕ, ◌+◌, ◌<◌, ◌≤◌, zero, suc, Bool, true, false, if◌then◌else◌, List, [], ◌∷◌, length, drop, refl, sym, ◌∙◌, ap, subst, arith, add_assoc, Option, Some, None, option_map, option_and_then, inl}
use Rattle.std.specs.Prelude.{◌==◌}
use Rattle.std.proofs.lemmas.Grind.{common_steps}
use Rattle.std.proofs.lemmas.List.{length-drop}
use Rattle.dc_model.specs.Name.{Name, NamePart, label, pointer, name_end, no_part, part_of, part_at, NameRead, with_label, by_pointer, read_parts, within_limits, if_within_limits, name_at, can_push, pushed}
use Rattle.dc_model.specs.Bodies.{if_plain, plain_name_at}
use Rattle.dc_model.proofs.NameLemmas.{eqb_no}
use Rattle.dc_model.proofs.PartLemmas.{IsPart, part_of-IsPart, mapped}
use Rattle.dc_model.proofs.MessageLemmas.{bound, guarded, some_of}
use Rattle.dc_packet.proofs.WalkLemmas.{IsWalk, extended, read_on, walk_label, walk_end, walk_none, walk_past_label, too_long, push_is, push_name}
use Rattle.dc_items.specs.Labels.{label_of}

-- whether a label is empty
pub eqb_zero : (n : ℕ) → (n == 0) ≡ true → n ≡ 0
eqb_zero n h = grind (arith, common_steps)

pub eqb_some : (n : ℕ) → (n == 0) ≡ false → 0 < n
eqb_some n h = grind (arith, common_steps)

-- the part that a label is of
end_is : (x : NamePart) (l : List ℕ) → IsPart x → label_of x ≡ Some l → length l ≡ 0 → x ≡ name_end
end_is name_end l h e z = refl
end_is (label k) l h e z =
    let is : k ≡ l = some_of k l e in
    let len : length k ≡ length l = ap (λ x. length x) is in
    absurd (omega (arith, h.least, len, z))
end_is (pointer at) l h e z = absurd (cc)
end_is no_part l h e z = absurd (cc)

label_is : (x : NamePart) (l : List ℕ) → label_of x ≡ Some l → 0 < length l → x ≡ label l
label_is name_end l e s =
    let is : [] ≡ l = some_of [] l e in
    let len : length {A = ℕ} [] ≡ length l = ap (λ x. length x) is in
    absurd (omega (arith, len, s))
label_is (label k) l e s = ap (λ x. label x) (some_of k l e)
label_is (pointer at) l e s = absurd (cc)
label_is no_part l e s = absurd (cc)

-- a name with a pointer isn't plain
plain_by : (b : Bool) (r : NameRead) → (r.pointers == 0) ≡ false → option_and_then if_plain (if b then Some r else None) ≡ None
plain_by true r h = rw h refl
plain_by false r h = refl

not_plain : (n : Name) (e : ℕ) (o : Option NameRead) → option_and_then if_plain (option_and_then if_within_limits (option_map (extended n None 0) (option_map (by_pointer e) o))) ≡ None
not_plain n e None = refl
not_plain n e (Some r) =
    let read : NameRead = extended n None 0 (by_pointer e r) in
    plain_by (within_limits read) read (eqb_no (r.pointers + 1 + 0) (omega arith))

pointer_by : (fuel : ℕ) (p : List ℕ) (at : ℕ) (n : Name) (to : ℕ) → part_at p at ≡ pointer to → option_and_then if_plain (read_on fuel p at n None 0) ≡ None
pointer_by zero p at n to e = refl
pointer_by (suc f) p at n to e =
    ap (λ x. option_and_then if_plain (option_and_then if_within_limits (option_map (extended n None 0) (read_parts (suc f) p at x)))) e
    ∙ not_plain n (at + 2) (read_parts f p to (part_at p to))

-- where no label stands, no name does
none_by : (x : NamePart) (p : List ℕ) (pos : ℕ) (n : Name) (at : ℕ) → IsWalk p pos n None 0 at → part_at p at ≡ x → label_of x ≡ None → plain_name_at p pos ≡ None
unfolding plain_name_at
none_by name_end p pos n at w e h = absurd (cc)
none_by (label l) p pos n at w e h = absurd (cc)
none_by (pointer to) p pos n at w e h = ap (λ o. option_and_then if_plain o) w.same ∙ pointer_by w.fuel p at n to e
none_by no_part p pos n at w e h = ap (λ o. option_and_then if_plain o) (walk_none p pos n None 0 at w e)

pub plain_none : (p : List ℕ) (pos : ℕ) (n : Name) (at : ℕ) → IsWalk p pos n None 0 at → label_of (part_at p at) ≡ None → plain_name_at p pos ≡ None
plain_none p pos n at w h = none_by (part_at p at) p pos n at w refl h

-- the walk ends at the empty label
pub plain_end : (p : List ℕ) (pos : ℕ) (n : Name) (at : ℕ) (l : List ℕ) → IsWalk p pos n None 0 at → label_of (part_at p at) ≡ Some l → length l ≡ 0 → plain_name_at p pos ≡ Some (record { name = n; after = at + 1 + length l; pointers = 0 })
unfolding plain_name_at
plain_end p pos n at l w h z =
    let ends = end_is (part_at p at) l (part_of-IsPart (drop at p)) h z in
    let after : at + 1 ≡ at + 1 + length l = omega (arith, z) in
    ap (λ o. option_and_then if_plain o) (walk_end p pos n None 0 at w ends) ∙ ap (λ (j : ℕ). Some (record { name = n; after = j; pointers = 0 })) after

-- a label that can't be pushed
pub plain_long : (p : List ℕ) (pos : ℕ) (n : Name) (at : ℕ) (l : List ℕ) (b : Bool) → IsWalk p pos n None 0 at → label_of (part_at p at) ≡ Some l → 0 < length l → b ≡ can_push n l → b ≡ false → plain_name_at p pos ≡ None
unfolding plain_name_at
plain_long p pos n at l b w h s e f =
    let is = label_is (part_at p at) l h s in
    ap (λ o. option_and_then if_plain o) (walk_past_label p pos n None 0 at l w is (inl (too_long p at n l is (sym e ∙ f))))

-- a label that is pushed
pub plain_more : (p : List ℕ) (pos : ℕ) (n m : Name) (at : ℕ) (l : List ℕ) (b : Bool) → IsWalk p pos n None 0 at → label_of (part_at p at) ≡ Some l → 0 < length l → b ≡ can_push n l → b ≡ true → m ≡ pushed n l → IsWalk p pos m None 0 (at + 1 + length l)
plain_more p pos n m at l b w h s e t g =
    let is = label_is (part_at p at) l h s in
    let name = push_name n m l w.name g in
    subst (λ j. IsWalk p pos m None 0 j) (sym (add_assoc at 1 (length l)))
    (walk_label p pos n m None 0 at l w is (push_is n m l b e t g) name (omega (arith, name.whole)))

-- where a plain name ends

-- A place behind another, in a body.
pub record IsLater (b : List ℕ) (i after : ℕ) : Type 0 where
  pub later : i < after
  pub within : after ≤ length b

here_by : (xs b : List ℕ) (i : ℕ) → drop i b ≡ xs → part_of xs ≡ name_end → IsLater b i (i + 1)
here_by [] b i e h = absurd (cc)
here_by (x ∷ xs) b i e h = record { later = omega arith; within = omega (arith, length-drop i b, ap (λ l. length l) e) }

parts_later : (k : ℕ) (b : List ℕ) (i : ℕ) (part : NamePart) (r : NameRead) → part_at b i ≡ part → read_parts k b i part ≡ Some r → r.pointers ≡ 0 → IsLater b i r.after
parts_later zero b i part r h e z = absurd (cc)
parts_later (suc k) b i name_end r h e z =
    subst (λ (x : NameRead). IsLater b i x.after) (some_of _ r e) (here_by (drop i b) b i refl h)
parts_later (suc k) b i (label l) r h e z =
    let from = mapped (with_label l) _ r e in
    let none : from.0.pointers ≡ 0 = ap (λ (x : NameRead). x.pointers) from.2 ∙ z in
    let others = parts_later k b (i + 1 + length l) (part_at b (i + 1 + length l)) from.0 refl from.1 none in
    let after : from.0.after ≡ r.after = ap (λ (x : NameRead). x.after) from.2 in
    record { later = omega (arith, others.later, after); within = omega (arith, others.within, after) }
parts_later (suc k) b i (pointer to) r h e z =
    let from = mapped (by_pointer (i + 2)) _ r e in
    let some : from.0.pointers + 1 ≡ r.pointers = ap (λ (x : NameRead). x.pointers) from.2 in
    absurd (omega (arith, some, z))
parts_later (suc k) b i no_part r h e z = absurd (cc)

pub plain_later : (b : List ℕ) (i : ℕ) (r : NameRead) → plain_name_at b i ≡ Some r → IsLater b i r.after
unfolding plain_name_at name_at
plain_later b i r e =
    let x = bound if_plain (name_at b i) r e in
    let g = guarded (x.0.pointers == 0) (Some x.0) r x.2 in
    let y = bound if_within_limits (read_parts 1000 b i (part_at b i)) x.0 x.1 in
    let f = guarded (within_limits y.0) (Some y.0) x.0 y.2 in
    let same : y.0 ≡ x.0 = some_of y.0 x.0 f.1 in
    let is : x.0 ≡ r = some_of x.0 r g.1 in
    let none : y.0.pointers ≡ 0 = ap (λ (q : NameRead). q.pointers) same ∙ eqb_zero x.0.pointers g.0 in
    let later = parts_later 1000 b i (part_at b i) y.0 refl y.1 none in
    subst (λ (q : NameRead). IsLater b i q.after) (same ∙ is) later
