-- Who is permitted, place by place.
use Rattle.std.proofs.Common.{◌≡◌, ℕ, ◌≤◌, Bool, true, false, ◌||◌, ◌&&◌, eqb, List, [], ◌∷◌, ◌++◌, length, take, map, refl, sym, ap, ◌∙◌, subst, arith, nat_eq, nat_le, bytes_eq, cond, ◌==◌, Option, Some, None, option_map, option_and_then}
use Rattle.std.specs.List.{AllByRecursion, list_any, starts_with, slice_split, onto_first}
use Rattle.std.proofs.lemmas.Cmp.{nat_list_eq_equiv}
use Rattle.std.proofs.lemmas.Option.{cond_some}
use Rattle.std.proofs.lemmas.Bool.{leb-true}
use Rattle.arrayvec.specs.ArrayVec.{ArrayVec}
use Rattle.dc_model.specs.Name.{octet_of, octets_of, dotted_parts}
use Rattle.dc_model.specs.Rules.{Permits, permitted, permit_of, if_at_most_four}

-- One to four octets.
abbrev pub AreOctets : List ℕ → Type 0
AreOctets o = (1 ≤ length o) × (length o ≤ 4)

-- Whether an address begins with octets.
abbrev pub begins : List ℕ → List ℕ → Bool
begins addr o = starts_with nat_eq addr o

-- Tests of one permission and of others, joined in either order.
swapped : (a b c d : Bool) → ((a || b) || (c || d)) ≡ ((a || c) || (b || d))
swapped true b c d = refl
swapped false true true d = refl
swapped false true false d = refl
swapped false false c d = refl

parted : (h1 h2 h3 h4 l1 l2 l3 l4 : Bool) → ((h1 || l1) || ((h2 || l2) || ((h3 || l3) || ((h4 || l4) || false)))) ≡ ((h1 || (h2 || (h3 || (h4 || false)))) || (l1 || (l2 || (l3 || (l4 || false)))))
parted h1 h2 h3 h4 l1 l2 l3 l4 =
    ap (λ b. (h1 || l1) || ((h2 || l2) || ((h3 || l3) || b))) (swapped h4 l4 false false)
    ∙ ap (λ b. (h1 || l1) || ((h2 || l2) || b)) (swapped h3 l3 (h4 || false) (l4 || false))
    ∙ ap (λ b. (h1 || l1) || b) (swapped h2 l2 (h3 || (h4 || false)) (l3 || (l4 || false)))
    ∙ swapped h1 l1 (h2 || (h3 || (h4 || false))) (l2 || (l3 || (l4 || false)))

one_octet : (p : Bool) → ((p && true) || ((p && false) || ((p && false) || ((p && false) || false)))) ≡ (p && true)
one_octet true = refl
one_octet false = refl

two_octets : (p q : Bool) → ((p && false) || ((p && (q && true)) || ((p && (q && false)) || ((p && (q && false)) || false)))) ≡ (p && (q && true))
two_octets true true = refl
two_octets true false = refl
two_octets false q = refl

three_octets : (p q r : Bool) → ((p && false) || ((p && (q && false)) || ((p && (q && (r && true))) || ((p && (q && (r && false))) || false)))) ≡ (p && (q && (r && true)))
three_octets true true true = refl
three_octets true true false = refl
three_octets true false r = refl
three_octets false q r = refl

four_octets : (p q r s : Bool) → ((p && false) || ((p && (q && false)) || ((p && (q && (r && false))) || ((p && (q && (r && (s && true)))) || false)))) ≡ (p && (q && (r && (s && true))))
four_octets true true true true = refl
four_octets true true true false = refl
four_octets true true false s = refl
four_octets true false r s = refl
four_octets false q r s = refl

-- Of the beginnings of an address only that of as many octets can be equal to a permission.
one_permission : (addr o : List ℕ) → length addr ≡ 4 → AreOctets o → (bytes_eq (take 1 addr) o || (bytes_eq (take 2 addr) o || (bytes_eq (take 3 addr) o || (bytes_eq (take 4 addr) o || false)))) ≡ bytes_eq (take (length o) addr) o
one_permission [] o e h = absurd (omega (arith, e))
one_permission (a ∷ []) o e h = absurd (omega (arith, e))
one_permission (a ∷ b ∷ []) o e h = absurd (omega (arith, e))
one_permission (a ∷ b ∷ c ∷ []) o e h = absurd (omega (arith, e))
one_permission (a ∷ b ∷ c ∷ d ∷ x ∷ xs) o e h = absurd (omega (arith, e))
one_permission (a ∷ b ∷ c ∷ d ∷ []) [] e h = absurd (omega (arith, h.0))
one_permission (a ∷ b ∷ c ∷ d ∷ []) (p ∷ []) e h = one_octet (eqb a p)
one_permission (a ∷ b ∷ c ∷ d ∷ []) (p ∷ q ∷ []) e h = two_octets (eqb a p) (eqb b q)
one_permission (a ∷ b ∷ c ∷ d ∷ []) (p ∷ q ∷ r ∷ []) e h = three_octets (eqb a p) (eqb b q) (eqb c r)
one_permission (a ∷ b ∷ c ∷ d ∷ []) (p ∷ q ∷ r ∷ s ∷ []) e h = four_octets (eqb a p) (eqb b q) (eqb c r) (eqb d s)
one_permission (a ∷ b ∷ c ∷ d ∷ []) (p ∷ q ∷ r ∷ s ∷ x ∷ xs) e h = absurd (omega (arith, h.1))

-- An address is permitted where it begins with a permission.
pub permitted_is : (addr : List ℕ) (ps : Permits) → length addr ≡ 4 → AllByRecursion AreOctets ps → permitted ps addr ≡ list_any (begins addr) ps
permitted_is addr [] e h = refl
permitted_is addr (o ∷ os) e h =
    parted (bytes_eq (take 1 addr) o) (bytes_eq (take 2 addr) o) (bytes_eq (take 3 addr) o) (bytes_eq (take 4 addr) o)
    (list_any (bytes_eq (take 1 addr)) os) (list_any (bytes_eq (take 2 addr)) os) (list_any (bytes_eq (take 3 addr)) os) (list_any (bytes_eq (take 4 addr)) os)
    ∙ (λ i. (one_permission addr o e h.0 ∙ nat_list_eq_equiv.symm (take (length o) addr) o) i || permitted_is addr os e h.1 i)

-- The octets of a permission

onto_some : (c : ℕ) (parts : List (List ℕ)) → (first : List ℕ) × (rest : List (List ℕ)) × (onto_first c parts ≡ first ∷ rest)
onto_some c [] = (c ∷ [], [], refl)
onto_some c (p ∷ ps) = (c ∷ p, ps, refl)

split_by : (b : Bool) (c : ℕ) (parts : List (List ℕ)) → (first : List ℕ) × (rest : List (List ℕ)) × (cond b ([] ∷ parts) (onto_first c parts) ≡ first ∷ rest)
split_by true c parts = ([], parts, refl)
split_by false c parts = onto_some c parts

split_some : (p : ℕ → Bool) (text : List ℕ) → (first : List ℕ) × (rest : List (List ℕ)) × (slice_split p text ≡ first ∷ rest)
split_some p [] = ([], [], refl)
split_some p (c ∷ cs) = split_by (p c) c (slice_split p cs)

some_by : (a : Option ℕ) (b : Option (List ℕ)) (ns : List ℕ) → option_and_then (λ n. option_map (λ ms. n ∷ ms) b) a ≡ Some ns → 1 ≤ length ns
some_by None b ns e = absurd (cc)
some_by (Some n) None ns e = absurd (cc)
some_by (Some n) (Some ms) ns e =
    let is : n ∷ ms ≡ ns = cc in
    subst (λ l. 1 ≤ length l) is (omega arith)

four_by : (o : Option (List ℕ)) (ns : List ℕ) → option_and_then if_at_most_four o ≡ Some ns → (o ≡ Some ns) × (length ns ≤ 4)
four_by None ns e = absurd (cc)
four_by (Some ms) ns e =
    let h = cond_some (nat_le (length ms) 4) ms ns e in
    (ap (λ l. Some l) h.1, subst (λ l. length l ≤ 4) h.1 (leb-true (length ms) 4 h.0))

pub permit-octets : (text o : List ℕ) → permit_of text ≡ Some o → AreOctets o
permit-octets text o e =
    let f = four_by (octets_of (dotted_parts text)) o e in
    let s = split_some (λ c. c == 46) text in
    (some_by (octet_of s.0) (octets_of s.1) o (ap octets_of (sym s.2) ∙ f.0), f.1)

pub octets-push : (ps : Permits) (o : List ℕ) → AllByRecursion AreOctets ps → AreOctets o → AllByRecursion AreOctets (ps ++ (o ∷ []))
octets-push [] o h k = (k, tt)
octets-push (p ∷ ps) o h k = (h.0, octets-push ps o h.1 k)

pub list_any-items : (q : List ℕ → Bool) (xs : List (ArrayVec ℕ)) → list_any (λ x. q x.items) xs ≡ list_any q (map (λ x. x.items) xs)
list_any-items q [] = refl
list_any-items q (x ∷ xs) = ap (λ b. q x.items || b) (list_any-items q xs)

-- An address is permitted where it begins with the octets of a place.
pub allowed_is : (addr : List ℕ) (places : List (ArrayVec ℕ)) (ps : Permits) → length addr ≡ 4 → map (λ x. x.items) places ≡ ps → AllByRecursion AreOctets ps → permitted ps addr ≡ list_any (λ x. begins addr x.items) places
allowed_is addr places ps e m h = permitted_is addr ps e h ∙ ap (λ l. list_any (begins addr) l) (sym m) ∙ sym (list_any-items (begins addr) places)
