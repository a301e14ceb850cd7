-- Names that are built in: each is within the limits, and names that are the same have the same address.
use Rattle.std.proofs.Common.{◌≡◌, ℕ, suc, ◌+◌, ◌*◌, ◌-◌, ◌<◌, ◌≤◌, ◌⊎◌, inl, inr, List, [], ◌∷◌, fold, length, Bool, true, false, true≢false, cond, not, ◌&&◌, ◌||◌, ltb, eqb, refl, sym, ◌∙◌, ap, subst, Option, Some, None, option_map, arith}
use Rattle.std.specs.Prelude.{All, IsTrue}
use Rattle.std.specs.List.{list_all}
use Rattle.std.specs.Char.{to_ascii_lowercase}
use Rattle.std.specs.Str.{str_to_ascii_lowercase}
use Rattle.std.proofs.lemmas.Bool.Decides.{nat_tests}
use Rattle.std.proofs.lemmas.List.{length-append}
use Rattle.std.proofs.lemmas.List.Elements.{All-cons, All-nil}
use Rattle.dc_model.specs.Name.{Name, IsName, IsLabel, lower, same, wire, name_eq, address_name, octets_of, octet_of, is_number, is_digit, number_value, if_four}
use Rattle.dc_model.proofs.ReadLemmas.{both}
use Rattle.dc_model.proofs.MessageLemmas.{bound, guarded, some_of}
use Rattle.dc_machine.specs.Turn.{built_in, loopback, localhost}

-- Numbers of three digits at most

grows : (n : ℕ) (cs : List ℕ) → n ≤ fold (λ m c. 10 * m + (c - 48)) n cs
grows n [] = omega arith
grows n (c ∷ cs) = omega (arith, grows (10 * n + (c - 48)) cs)

never : (n : ℕ) → eqb (suc n) 0 ≡ false
never n = grind (arith, nat_tests)

first_digit : (c d : ℕ) (cs : List ℕ) → is_number (c ∷ d ∷ cs) ≡ true → 49 ≤ c
first_digit c d cs t =
    let p = both (list_all is_digit (c ∷ d ∷ cs)) (not (eqb c 48) || eqb (length (d ∷ cs)) 0) t in
    let q = (both (is_digit c) (list_all is_digit (d ∷ cs)) p.0).0 in
    by_test (eqb c 48) refl q (subst (λ b. (not (eqb c 48) || b) ≡ true) (never (length cs)) p.1)
  where
    by_test : (b : Bool) → eqb c 48 ≡ b → is_digit c ≡ true → (not b || false) ≡ true → 49 ≤ c
    by_test true e q r = absurd (true≢false (sym r))
    by_test false e q r = grind (arith, nat_tests)

short_number : (l : List ℕ) → is_number l ≡ true → number_value l < 256 → (1 ≤ length l) × (length l ≤ 3)
short_number [] t v = absurd (true≢false (sym t))
short_number (c ∷ []) t v = (omega arith, omega arith)
short_number (c ∷ d ∷ []) t v = (omega arith, omega arith)
short_number (c ∷ d ∷ e ∷ []) t v = (omega arith, omega arith)
short_number (c ∷ d ∷ e ∷ f ∷ cs) t v =
    let a = first_digit c d (e ∷ f ∷ cs) t in
    let b = grows (10 * (10 * (10 * (10 * 0 + (c - 48)) + (d - 48)) + (e - 48)) + (f - 48)) cs in
    absurd (omega (arith, a, b, v))

octet_is : (l : List ℕ) (v : ℕ) → octet_of l ≡ Some v → (is_number l ≡ true) × (number_value l < 256)
octet_is l v e =
    let g = guarded (is_number l && ltb (number_value l) 256) (Some (number_value l)) v e in
    let b = both (is_number l) (ltb (number_value l) 256) g.0 in
    (b.0, below (number_value l) b.1)
  where
    below : (n : ℕ) → ltb n 256 ≡ true → n < 256
    below n h = grind (arith, nat_tests)

mapped : (f : List ℕ → List ℕ) (o : Option (List ℕ)) (y : List ℕ) → option_map f o ≡ Some y → (x : List ℕ) × (o ≡ Some x) × (f x ≡ y)
mapped f None y e = absurd (cc)
mapped f (Some x) y e = (x, refl, some_of (f x) y e)

-- Labels and length

record IsShort (n : Name) (count : ℕ) : Type 0 where
  pub labels : All IsLabel n
  pub wire_is : length (wire n) ≤ 4 * count + 1

octets_short : (n : Name) (ns : List ℕ) → octets_of n ≡ Some ns → IsShort n (length ns)
octets_short [] ns e = record { labels = All-nil IsLabel; wire_is = omega arith }
octets_short (l ∷ ls) ns e =
    let b = bound (λ v. option_map (λ vs. v ∷ vs) (octets_of ls)) (octet_of l) ns e in
    let m = mapped (λ vs. b.0 ∷ vs) (octets_of ls) ns b.2 in
    let o = octet_is l b.0 b.1 in
    let s = short_number l o.0 o.1 in
    let r = octets_short ls m.0 m.1 in
    let long : length ns ≡ suc (length m.0) = ap (λ x. length x) (sym m.2) in
    let whole = length-append l (wire ls) in
    record {
      labels = All-cons IsLabel l ls (record { least = s.0; most = omega (arith, s.1) }) r.labels;
      wire_is = omega (arith, s.1, r.wire_is, long, whole);
    }

eqb_is : (m n : ℕ) → eqb m n ≡ true → m ≡ n
eqb_is m n h = grind (arith, nat_tests)

address_good : (n : Name) (a : List ℕ) → address_name n ≡ Some a → IsName n
address_good n a e =
    let b = bound if_four (octets_of n) a e in
    let g = guarded (eqb (length b.0) 4) (Some b.0) a b.2 in
    let four = eqb_is (length b.0) 4 g.0 in
    let s = octets_short n b.0 b.1 in
    record { labels = s.labels; whole = omega (arith, four, s.wire_is) }

-- Case

digit_low : (c : ℕ) → is_digit c ≡ true → to_ascii_lowercase c ≡ c
digit_low c e = by_test (ltb c 65) refl where
  by_test : (b : Bool) → ltb c 65 ≡ b → cond b c (cond (ltb c 91) (c + 32) c) ≡ c
  by_test true h = refl
  by_test false h = grind (arith, nat_tests)

low_digit : (c : ℕ) → is_digit (to_ascii_lowercase c) ≡ true → to_ascii_lowercase c ≡ c
low_digit c e = by_test (ltb c 65) (ltb c 91) refl refl e where
  by_test : (b d : Bool) → ltb c 65 ≡ b → ltb c 91 ≡ d → is_digit (cond b c (cond d (c + 32) c)) ≡ true → cond b c (cond d (c + 32) c) ≡ c
  by_test true d h k t = refl
  by_test false true h k t = absurd (omega (arith, high c h, low (c + 32) t))
    where
      high : (m : ℕ) → ltb m 65 ≡ false → 65 ≤ m
      high m x = grind (arith, nat_tests)

      low : (m : ℕ) → is_digit m ≡ true → m ≤ 57
      low m x = grind (arith, nat_tests)
  by_test false false h k t = refl

digits_low : (cs : List ℕ) → list_all is_digit cs ≡ true → str_to_ascii_lowercase cs ≡ cs
digits_low [] e = refl
digits_low (c ∷ cs) e =
    let b = both (is_digit c) (list_all is_digit cs) e in
    ap (λ x. x ∷ str_to_ascii_lowercase cs) (digit_low c b.0) ∙ ap (λ xs. c ∷ xs) (digits_low cs b.1)

low_digits : (cs : List ℕ) → list_all is_digit (str_to_ascii_lowercase cs) ≡ true → str_to_ascii_lowercase cs ≡ cs
low_digits [] e = refl
low_digits (c ∷ cs) e =
    let b = both (is_digit (to_ascii_lowercase c)) (list_all is_digit (str_to_ascii_lowercase cs)) e in
    ap (λ x. x ∷ str_to_ascii_lowercase cs) (low_digit c b.0) ∙ ap (λ xs. c ∷ xs) (low_digits cs b.1)

number_digits : (l : List ℕ) → is_number l ≡ true → list_all is_digit l ≡ true
number_digits [] e = refl
number_digits (c ∷ cs) e = (both (list_all is_digit (c ∷ cs)) (not (eqb c 48) || eqb (length cs) 0) e).0

octet_own : (l m : List ℕ) (v : ℕ) → octet_of l ≡ Some v → str_to_ascii_lowercase l ≡ str_to_ascii_lowercase m → m ≡ l
octet_own l m v e h =
    let d = number_digits l (octet_is l v e).0 in
    let k = digits_low l d in
    let f : str_to_ascii_lowercase m ≡ l = sym h ∙ k in
    sym (low_digits m (ap (λ x. list_all is_digit x) f ∙ d)) ∙ f

octets_own : (n m : Name) (ns : List ℕ) → octets_of n ≡ Some ns → lower n ≡ lower m → m ≡ n
octets_own [] [] ns e h = refl
octets_own [] (k ∷ ks) ns e h = let x : 0 ≡ suc (length (lower ks)) = ap (λ y. length y) h in absurd (omega (arith, x))
octets_own (l ∷ ls) [] ns e h = let x : suc (length (lower ls)) ≡ 0 = ap (λ y. length y) h in absurd (omega (arith, x))
octets_own (l ∷ ls) (k ∷ ks) ns e h =
    let b = bound (λ v. option_map (λ vs. v ∷ vs) (octets_of ls)) (octet_of l) ns e in
    let m = mapped (λ vs. b.0 ∷ vs) (octets_of ls) ns b.2 in
    let x : str_to_ascii_lowercase l ≡ str_to_ascii_lowercase k = ap (λ y. first_or y) h in
    let y : lower ls ≡ lower ks = ap (λ z. rest_of z) h in
    ap (λ z. z ∷ ks) (octet_own l k b.0 b.1 x) ∙ ap (λ z. l ∷ z) (octets_own ls ks m.0 m.1 y)
  where
    first_or : List (List ℕ) → List ℕ
    first_or [] = []
    first_or (z ∷ zs) = z

    rest_of : List (List ℕ) → List (List ℕ)
    rest_of [] = []
    rest_of (z ∷ zs) = zs

address_own : (n m : Name) (a : List ℕ) → address_name n ≡ Some a → lower n ≡ lower m → m ≡ n
address_own n m a e h = let b = bound if_four (octets_of n) a e in octets_own n m b.0 b.1 h

pub built_in_same : (n m : Name) (a : List ℕ) → built_in n ≡ Some a → lower n ≡ lower m → built_in m ≡ Some a
unfolding built_in
built_in_same n m a e h = by_test (same n localhost) (ap (λ x. name_eq x (lower localhost)) (sym h)) e where
  by_test : (b : Bool) → same m localhost ≡ b → cond b (Some loopback) (address_name n) ≡ Some a → cond (same m localhost) (Some loopback) (address_name m) ≡ Some a
  by_test true s k = ap (λ b. cond b (Some loopback) (address_name m)) s ∙ k
  by_test false s k = ap (λ b. cond b (Some loopback) (address_name m)) s ∙ ap (λ x. address_name x) (address_own n m a k h) ∙ k

pub built_in_good : (n : Name) (a : List ℕ) → built_in n ≡ Some a → IsTrue (same n localhost) ⊎ IsName n
unfolding built_in
built_in_good n a e = by_test (same n localhost) refl e where
  by_test : (b : Bool) → same n localhost ≡ b → cond b (Some loopback) (address_name n) ≡ Some a → IsTrue (same n localhost) ⊎ IsName n
  by_test true s k = inl s
  by_test false s k = inr (address_good n a k)
