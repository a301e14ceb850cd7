-- Reading a name part by part, as a walk over the packet.
use Rattle.std.proofs.Common.{◌≡◌, ℕ, ◌+◌, ◌<◌, ◌≤◌, zero, suc, Bool, true, false, ◌&&◌, nat_le, nat_lt, List, [], ◌∷◌, ◌++◌, length, drop, refl, sym, ◌∙◌, ap, subst, arith, zero-add, add-zero, append_assoc, add_assoc, Option, Some, None, option_map, option_and_then, unwrap_or, ◌⊎◌, inl, inr}
use Rattle.std.specs.Option.{option_or}
use Rattle.std.proofs.lemmas.Grind.{common_steps}
use Rattle.std.proofs.lemmas.List.{append-nil, length-append}
use Rattle.std.proofs.lemmas.List.Elements.{All-nil}
use Rattle.dc_model.specs.Name.{Name, IsName, IsLabel, wire, wire_length, label, pointer, name_end, no_part, part_at, NameRead, with_label, by_pointer, read_parts, within_limits, if_within_limits, name_at, can_push, pushed}
use Rattle.dc_model.proofs.NameLemmas.{leb_yes, length-wire, eqb_no}
use Rattle.dc_model.proofs.PartLemmas.{IsPart, part_of-IsPart, ltb_least}
use Rattle.dc_model.proofs.DottedLemmas.{pushed-IsName}
use Rattle.dc_name.proofs.TextLemmas.{length-wire-push}

-- a name that was read behind labels and pointers that were read before
abbrev pub extended : Name → Option ℕ → ℕ → NameRead → NameRead
extended n a k r = record { name = n ++ r.name; after = unwrap_or a r.after; pointers = r.pointers + k }

-- what is read from a place on, behind labels and pointers that were read before
abbrev pub read_on : ℕ → List ℕ → ℕ → Name → Option ℕ → ℕ → Option NameRead
read_on fuel p at n a k = option_and_then if_within_limits (option_map (extended n a k) (read_parts fuel p at (part_at p at)))

-- so far these labels were read, by so many pointers, and the name goes on at a place
pub record IsWalk (p : List ℕ) (pos : ℕ) (n : Name) (a : Option ℕ) (k at : ℕ) : Type 0 where
  pub fuel : ℕ
  pub enough : length n + k + fuel ≡ 1000
  pub name : IsName n
  pub limit : wire_length n + k ≤ 999
  pub same : name_at p pos ≡ read_on fuel p at n a k

none_before : (o : Option NameRead) → option_map (extended [] None 0) o ≡ o
none_before None = refl
none_before (Some r) = ap (λ (k : ℕ). Some (record { name = r.name; after = r.after; pointers = k })) (add-zero r.pointers)

pub walk_start : (p : List ℕ) (pos : ℕ) → IsWalk p pos [] None 0 pos
unfolding name_at
walk_start p pos = record {
  fuel = 1000;
  enough = refl;
  name = record { labels = All-nil IsLabel; whole = omega arith };
  limit = omega arith;
  same = ap (λ o. option_and_then if_within_limits o) (sym (none_before (read_parts 1000 p pos (part_at p pos))));
}

-- what was read in front of a label or a pointer

label_before : (n : Name) (a : Option ℕ) (k : ℕ) (l : List ℕ) (o : Option NameRead) → option_map (extended n a k) (option_map (with_label l) o) ≡ option_map (extended (n ++ (l ∷ [])) a k) o
label_before n a k l None = refl
label_before n a k l (Some r) = ap (λ (m : Name). Some (record { name = m; after = unwrap_or a r.after; pointers = r.pointers + k })) (sym (append_assoc n (l ∷ []) r.name))

pointer_before : (n : Name) (a : Option ℕ) (k e : ℕ) (o : Option NameRead) → option_map (extended n a k) (option_map (by_pointer e) o) ≡ option_map (extended n (option_or a (Some e)) (k + 1)) o
pointer_before n a k e None = refl
pointer_before n None k e (Some r) = ap (λ (j : ℕ). Some (record { name = n ++ r.name; after = e; pointers = j })) (omega arith)
pointer_before n (Some x) k e (Some r) = ap (λ (j : ℕ). Some (record { name = n ++ r.name; after = x; pointers = j })) (omega arith)

read_on-label : (f : ℕ) (p : List ℕ) (at : ℕ) (n : Name) (a : Option ℕ) (k : ℕ) (l : List ℕ) → part_at p at ≡ label l → read_on (suc f) p at n a k ≡ read_on f p (at + 1 + length l) (n ++ (l ∷ [])) a k
read_on-label f p at n a k l e =
    ap (λ x. option_and_then if_within_limits (option_map (extended n a k) (read_parts (suc f) p at x))) e
    ∙ ap (λ o. option_and_then if_within_limits o) (label_before n a k l (read_parts f p (at + 1 + length l) (part_at p (at + 1 + length l))))

read_on-pointer : (f : ℕ) (p : List ℕ) (at : ℕ) (n : Name) (a : Option ℕ) (k to : ℕ) → part_at p at ≡ pointer to → read_on (suc f) p at n a k ≡ read_on f p to n (option_or a (Some (at + 2))) (k + 1)
read_on-pointer f p at n a k to e =
    ap (λ x. option_and_then if_within_limits (option_map (extended n a k) (read_parts (suc f) p at x))) e
    ∙ ap (λ o. option_and_then if_within_limits o) (pointer_before n a k (at + 2) (read_parts f p to (part_at p to)))

-- a part of a name is left
pub record HasPart (p : List ℕ) (pos : ℕ) (n : Name) (a : Option ℕ) (k at : ℕ) : Type 0 where
  pub fuel : ℕ
  pub enough : length n + k + suc fuel ≡ 1000
  pub same : name_at p pos ≡ read_on (suc fuel) p at n a k

has_by : (fuel : ℕ) (p : List ℕ) (pos : ℕ) (n : Name) (a : Option ℕ) (k at : ℕ) → length n + k + fuel ≡ 1000 → wire_length n + k ≤ 999 → name_at p pos ≡ read_on fuel p at n a k → HasPart p pos n a k at
has_by zero p pos n a k at e h s = let c = length-wire n in absurd (omega (arith, c, e, h))
has_by (suc f) p pos n a k at e h s = record { fuel = f; enough = e; same = s }

has_part : (p : List ℕ) (pos : ℕ) (n : Name) (a : Option ℕ) (k at : ℕ) → IsWalk p pos n a k at → HasPart p pos n a k at
has_part p pos n a k at w = has_by w.fuel p pos n a k at w.enough w.limit w.same

-- the walk goes on

pub walk_label : (p : List ℕ) (pos : ℕ) (n m : Name) (a : Option ℕ) (k at : ℕ) (l : List ℕ) → IsWalk p pos n a k at → part_at p at ≡ label l → m ≡ n ++ (l ∷ []) → IsName m → wire_length m + k ≤ 999 → IsWalk p pos m a k (at + (1 + length l))
walk_label p pos n m a k at l w e is name h =
    let part = has_part p pos n a k at w in
    let len : length m ≡ length n + 1 = ap (λ x. length x) is ∙ length-append n (l ∷ []) in
    record {
      fuel = part.fuel;
      enough = omega (arith, part.enough, len);
      name = name;
      limit = h;
      same = part.same ∙ read_on-label part.fuel p at n a k l e ∙ ap (λ x. read_on part.fuel p (at + 1 + length l) x a k) (sym is) ∙ ap (λ x. read_on part.fuel p x m a k) (add_assoc at 1 (length l));
    }

pub walk_pointer : (p : List ℕ) (pos : ℕ) (n : Name) (a : Option ℕ) (k at to : ℕ) → IsWalk p pos n a k at → part_at p at ≡ pointer to → wire_length n + (k + 1) ≤ 999 → IsWalk p pos n (option_or a (Some (at + 2))) (k + 1) to
walk_pointer p pos n a k at to w e h =
    let part = has_part p pos n a k at w in
    record {
      fuel = part.fuel;
      enough = omega (arith, part.enough);
      name = w.name;
      limit = h;
      same = part.same ∙ read_on-pointer part.fuel p at n a k to e;
    }

-- the walk ends

pub walk_end : (p : List ℕ) (pos : ℕ) (n : Name) (a : Option ℕ) (k at : ℕ) → IsWalk p pos n a k at → part_at p at ≡ name_end → name_at p pos ≡ Some (record { name = n; after = unwrap_or a (at + 1); pointers = k })
walk_end p pos n a k at w e =
    let part = has_part p pos n a k at w in
    let read : NameRead = record { name = n; after = unwrap_or a (at + 1); pointers = k } in
    let limits : within_limits read ≡ true = rw (leb_yes (length (wire n)) 255 w.name.whole, leb_yes (length (wire n) + k) 999 w.limit) refl in
    let ends : extended n a k (record { name = []; after = at + 1; pointers = 0 }) ≡ read = rw (append-nil n, zero-add k) refl in
    part.same ∙ ap (λ x. option_and_then if_within_limits (option_map (extended n a k) (read_parts (suc part.fuel) p at x))) e
    ∙ ap (λ x. if_within_limits x) ends ∙ rw limits refl

pub walk_none : (p : List ℕ) (pos : ℕ) (n : Name) (a : Option ℕ) (k at : ℕ) → IsWalk p pos n a k at → part_at p at ≡ no_part → name_at p pos ≡ None
walk_none p pos n a k at w e =
    let part = has_part p pos n a k at w in
    part.same ∙ ap (λ x. option_and_then if_within_limits (option_map (extended n a k) (read_parts (suc part.fuel) p at x))) e

-- the walk is past a limit

length-wire-before : (n m : Name) → length (wire n) ≤ length (wire (n ++ m))
length-wire-before [] [] = omega arith
length-wire-before [] (l ∷ ls) = omega arith
length-wire-before (l ∷ ls) m =
    let a = length-append l (wire ls) in
    let b = length-append l (wire (ls ++ m)) in
    let h = length-wire-before ls m in
    omega (arith, a, b, h)

past_by : (n : Name) (a : Option ℕ) (k : ℕ) (r : NameRead) → (255 < wire_length n) ⊎ (999 < wire_length n + k) → within_limits (extended n a k r) ≡ false
past_by n a k r (inl h) =
    let c = length-wire-before n r.name in
    let no : nat_le (wire_length (n ++ r.name)) 255 ≡ false = grind (arith, common_steps) in
    rw no refl
past_by n a k r (inr h) =
    let c = length-wire-before n r.name in
    let no : nat_le (wire_length (n ++ r.name) + (r.pointers + k)) 999 ≡ false = grind (arith, common_steps) in
    rw no (never (nat_le (wire_length (n ++ r.name)) 255))
  where
    never : (b : Bool) → (b && false) ≡ false
    never true = refl
    never false = refl

past : (n : Name) (a : Option ℕ) (k : ℕ) (o : Option NameRead) → (255 < wire_length n) ⊎ (999 < wire_length n + k) → option_and_then if_within_limits (option_map (extended n a k) o) ≡ None
past n a k None h = refl
past n a k (Some r) h = rw (past_by n a k r h) refl

pub walk_past_label : (p : List ℕ) (pos : ℕ) (n : Name) (a : Option ℕ) (k at : ℕ) (l : List ℕ) → IsWalk p pos n a k at → part_at p at ≡ label l → (255 < wire_length (n ++ (l ∷ []))) ⊎ (999 < wire_length (n ++ (l ∷ [])) + k) → name_at p pos ≡ None
walk_past_label p pos n a k at l w e h =
    let part = has_part p pos n a k at w in
    part.same ∙ read_on-label part.fuel p at n a k l e ∙ past (n ++ (l ∷ [])) a k (read_parts part.fuel p (at + 1 + length l) (part_at p (at + 1 + length l))) h

pub walk_past_pointer : (p : List ℕ) (pos : ℕ) (n : Name) (a : Option ℕ) (k at to : ℕ) → IsWalk p pos n a k at → part_at p at ≡ pointer to → 999 < wire_length n + (k + 1) → name_at p pos ≡ None
walk_past_pointer p pos n a k at to w e h =
    let part = has_part p pos n a k at w in
    part.same ∙ read_on-pointer part.fuel p at n a k to e ∙ past n (option_or a (Some (at + 2))) (k + 1) (read_parts part.fuel p to (part_at p to)) (inr h)

-- a label that is read and can't be pushed makes the name too long
part_label : (p : List ℕ) (at : ℕ) (l : List ℕ) → part_at p at ≡ label l → IsLabel l
part_label p at l e = subst (λ x. IsPart x) e (part_of-IsPart (drop at p))

long_by : (b : Bool) (n : Name) (l : List ℕ) → nat_lt 255 (wire_length n + 1 + length l) ≡ b → IsLabel l → can_push n l ≡ false → 255 < wire_length n + 1 + length l
long_by true n l t is f = ltb_least 255 (wire_length n + 1 + length l) t
long_by false n l t is f =
    let a = eqb_no (length l) is.least in
    let b = not_long l is in
    let can : can_push n l ≡ true = rw (a, b, t) refl in
    absurd (cc)
  where
    not_long : (l : List ℕ) → IsLabel l → nat_lt 63 (length l) ≡ false
    not_long l is = grind (arith, common_steps, is.most)

pub too_long : (p : List ℕ) (at : ℕ) (n : Name) (l : List ℕ) → part_at p at ≡ label l → can_push n l ≡ false → 255 < wire_length (n ++ (l ∷ []))
too_long p at n l e f =
    let c = length-wire-push n l in
    let h = long_by (nat_lt 255 (wire_length n + 1 + length l)) n l refl (part_label p at l e) f in
    omega (arith, c, h)

-- a label that is pushed
pub push_is : (n m : Name) (l : List ℕ) (b : Bool) → b ≡ can_push n l → b ≡ true → m ≡ pushed n l → m ≡ n ++ (l ∷ [])
push_is n m l b e f g = let h : can_push n l ≡ true = cc in g ∙ rw h refl

pub push_name : (n m : Name) (l : List ℕ) → IsName n → m ≡ pushed n l → IsName m
push_name n m l h e = subst (λ x. IsName x) (sym e) (pushed-IsName n l h)

-- the place behind the first pointer lies in the packet
pub first_behind : (a : Option ℕ) (at most : ℕ) → unwrap_or a 0 ≤ most → at ≤ most → unwrap_or (option_or a (Some at)) 0 ≤ most
first_behind None at most h k = k
first_behind (Some x) at most h k = h

pub last_behind : (a : Option ℕ) (at most : ℕ) → unwrap_or a 0 ≤ most → at ≤ most → unwrap_or a at ≤ most
last_behind None at most h k = k
last_behind (Some x) at most h k = h

-- the place behind a name is past the place where it stands
pub later_behind : (a : Option ℕ) (pos at next : ℕ) → at ≤ next → pos < unwrap_or a (at + 1) → pos < unwrap_or a (next + 1)
later_behind None pos at next h k = omega arith
later_behind (Some x) pos at next h k = k

pub first_later : (a : Option ℕ) (pos at next : ℕ) → pos < unwrap_or a (at + 1) → pos < unwrap_or (option_or a (Some (at + 2))) next
first_later None pos at next k = omega arith
first_later (Some x) pos at next k = k
