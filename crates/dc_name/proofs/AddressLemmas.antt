-- Names that spell addresses, and names under which addresses are looked up.
use Rattle.std.proofs.Common.{◌≡◌, ◌≢◌, ℕ, ◌+◌, ◌<◌, ◌≤◌, suc, false, ◌==◌, nat_lt, List, [], ◌∷◌, ◌++◌, length, get_or, refl, sym, ◌∙◌, ap, subst, arith, Option, Some, None, option_map, option_and_then, codes, decimal}
use Rattle.std.proofs.lemmas.Grind.{common_steps}
use Rattle.std.proofs.lemmas.Fmt.{length-decimal-le, decimal_nonempty}
use Rattle.dc_model.specs.Name.{Name, wire_length, octet_of, octets_of, if_four, address_name, reverse_name, pushed}
use Rattle.dc_model.proofs.NameLemmas.{eqb_no}
use Rattle.dc_name.proofs.TextLemmas.{length-wire-push}

-- a name of more than four labels is no address
more_by : (o p : Option (List ℕ)) (n : ℕ) → ((ns : List ℕ) → p ≡ Some ns → n ≤ length ns) → (a : Option ℕ) → (ns : List ℕ) → option_and_then (λ x. option_map (λ xs. x ∷ xs) p) a ≡ Some ns → suc n ≤ length ns
more_by o None n f None ns e = absurd (cc)
more_by o None n f (Some x) ns e = absurd (cc)
more_by o (Some xs) n f None ns e = absurd (cc)
more_by o (Some xs) n f (Some x) ns e =
    let is : x ∷ xs ≡ ns = cc in
    let least = f xs refl in
    subst (λ l. suc n ≤ length l) is (omega (arith, least))

octets-length : (n : Name) (ns : List ℕ) → octets_of n ≡ Some ns → length n ≤ length ns
octets-length [] ns e = omega arith
octets-length (l ∷ ls) ns e = more_by None (octets_of ls) (length ls) (octets-length ls) (octet_of l) ns e

too_many : (o : Option (List ℕ)) → ((ns : List ℕ) → o ≡ Some ns → 5 ≤ length ns) → option_and_then if_four o ≡ None
too_many None f = refl
too_many (Some ns) f =
    let least = f ns refl in
    let no : (length ns == 4) ≡ false = grind (arith, common_steps) in
    rw no refl

pub address_name-long : (n : Name) → 5 ≤ length n → address_name n ≡ None
address_name-long n h = too_many (octets_of n) (λ ns e. let k = octets-length n ns e in omega (arith, k, h))

not_empty : (n : Name) → n ≢ [] → 1 ≤ length n
not_empty [] h = absurd (h refl)
not_empty (l ∷ ls) h = omega arith

pub address_name-five : (a b c d : List ℕ) (n second third fourth fifth : Name) → n ≡ a ∷ second → second ≡ b ∷ third → third ≡ c ∷ fourth → fourth ≡ d ∷ fifth → fifth ≢ [] → address_name n ≡ None
address_name-five a b c d n second third fourth fifth e f g h s =
    let least = not_empty fifth s in
    address_name-long n (omega (arith, least, ap (λ m. length m) e, ap (λ m. length m) f, ap (λ m. length m) g, ap (λ m. length m) h))

-- a label that fits can be pushed
pub pushed-fits : (n : Name) (l : List ℕ) → 0 < length l → length l ≤ 63 → wire_length n + 1 + length l ≤ 255 → pushed n l ≡ n ++ (l ∷ [])
pushed-fits n l h k m =
    let a = eqb_no (length l) h in
    let b : nat_lt 63 (length l) ≡ false = grind (arith, common_steps) in
    let c : nat_lt 255 (wire_length n + 1 + length l) ≡ false = grind (arith, common_steps) in
    rw (a, b, c) refl

octet_size : (o : ℕ) → o < 256 → (0 < length (decimal o)) × (length (decimal o) ≤ 3)
octet_size o h = (decimal_nonempty o (omega (arith, h)), length-decimal-le 3 o (omega arith) (omega (arith, h)) (omega (arith, h)))

pub pushed-octet : (n : Name) (o : ℕ) → o < 256 → wire_length n ≤ 251 → pushed n (decimal o) ≡ n ++ (decimal o ∷ [])
pushed-octet n o h k = let s = octet_size o h in pushed-fits n (decimal o) s.0 (omega (arith, s.1)) (omega (arith, s.1, k))

pub length-pushed_octet : (n new : Name) (o : ℕ) → o < 256 → new ≡ n ++ (decimal o ∷ []) → wire_length new ≤ wire_length n + 4
length-pushed_octet n new o h e =
    let s = octet_size o h in
    let a : wire_length new ≡ wire_length (n ++ (decimal o ∷ [])) = ap wire_length e in
    let b = length-wire-push n (decimal o) in
    omega (arith, a, b, s.1)

-- four octets in reverse, and the two labels behind them
four : (xs : List ℕ) → length xs ≡ 4 → xs ≡ get_or xs 0 0 ∷ get_or xs 1 0 ∷ get_or xs 2 0 ∷ get_or xs 3 0 ∷ []
four [] h = absurd (omega (arith, h))
four (a ∷ []) h = absurd (omega (arith, h))
four (a ∷ b ∷ []) h = absurd (omega (arith, h))
four (a ∷ b ∷ c ∷ []) h = absurd (omega (arith, h))
four (a ∷ b ∷ c ∷ d ∷ []) h = refl
four (a ∷ b ∷ c ∷ d ∷ e ∷ es) h = absurd (omega (arith, h))

pub reverse_name-four : (addr : List ℕ) → length addr ≡ 4 → reverse_name addr ≡ decimal (get_or addr 3 0) ∷ decimal (get_or addr 2 0) ∷ decimal (get_or addr 1 0) ∷ decimal (get_or addr 0 0) ∷ codes "in-addr" ∷ codes "arpa" ∷ []
reverse_name-four addr h = ap reverse_name (four addr h)

reverse_labels : (addr : List ℕ) (n : Name) → length addr ≡ 4 → n ≡ ((([] ++ (decimal (get_or addr 3 0) ∷ [])) ++ (decimal (get_or addr 2 0) ∷ [])) ++ (decimal (get_or addr 1 0) ∷ [])) ++ (decimal (get_or addr 0 0) ∷ []) → (n ++ (codes "in-addr" ∷ [])) ++ (codes "arpa" ∷ []) ≡ reverse_name addr
reverse_labels addr n h e = ap (λ m. (m ++ (codes "in-addr" ∷ [])) ++ (codes "arpa" ∷ [])) e ∙ sym (reverse_name-four addr h)

pub reverse_is : (addr : List ℕ) (n m l : Name) → length addr ≡ 4 → n ≡ ((([] ++ (decimal (get_or addr 3 0) ∷ [])) ++ (decimal (get_or addr 2 0) ∷ [])) ++ (decimal (get_or addr 1 0) ∷ [])) ++ (decimal (get_or addr 0 0) ∷ [])
    → wire_length n ≤ 17 → m ≡ pushed n (codes "in-addr") → l ≡ pushed m (codes "arpa") → l ≡ reverse_name addr
reverse_is addr n m l h e k f g =
    let zone : m ≡ n ++ (codes "in-addr" ∷ []) = f ∙ pushed-fits n (codes "in-addr") (omega arith) (omega arith) (omega (arith, k)) in
    let size : wire_length m ≡ wire_length n + 1 + 7 = ap wire_length zone ∙ length-wire-push n (codes "in-addr") in
    let top : l ≡ m ++ (codes "arpa" ∷ []) = g ∙ pushed-fits m (codes "arpa") (omega arith) (omega arith) (omega (arith, size, k)) in
    top ∙ ap (λ x. x ++ (codes "arpa" ∷ [])) zone ∙ reverse_labels addr n h e
