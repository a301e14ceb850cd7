-- Words, numbers, addresses and bytes that are written are read back.
use Rattle.std.proofs.Common.{◌≡◌, ℕ, zero, suc, ◌+◌, ◌-◌, ◌*◌, ◌/◌, ◌%◌, ◌^◌, ◌<◌, ◌≤◌, Bool, true, false, not, ◌&&◌, ◌||◌, ◌==◌, cond, eqb, ltb, leb, List, [], ◌∷◌, ◌++◌, length, map, fold, get_or, codes, decimal, Some, None, option_map, option_and_then, refl, ◌∙◌, ap, arith, ◌≢◌, length-append}
use Rattle.std.specs.List.{list_all, onto_first, join_with_byte, AllByRecursion}
use Rattle.std.proofs.lemmas.Bool.Decides.{nat_tests}
use Rattle.std.proofs.lemmas.Slice.Eq.{bytes_eq-Decides}
use Rattle.std.proofs.lemmas.List.Splits.{slice_split-cons_yes, slice_split-cons_no}
use Rattle.std.proofs.lemmas.Str.Parse.{IsNumeralModel, numerals_by_fold}
use Rattle.std.proofs.lemmas.Fmt.{digits_decimal, digits_value-decimal, decimal_digit, first_decimal, length-decimal-le}
use Rattle.dc_model.specs.Name.{is_digit, is_number, number_value, octet_of, octets_of, dotted_parts, address_of, if_four}
use Rattle.dc_model.specs.Line.{hex, hex_digit}
use Rattle.dc_text.specs.Numbers.{number_below}
use Rattle.dc_text.specs.Parts.{parts_of}
use Rattle.dc_script.specs.Lines.{IsOneLine}
use Rattle.dc_model.proofs.LineLemmas.{words_size}
use Rattle.dc_script.specs.Script.{Words, is_lower_digit, lower_value, bytes_spelled, spells, is_dash, bytes_word}
use Rattle.dc_model.specs.Address.{address_text}
use Rattle.dc_script.specs.Text.{bytes_text}
use Rattle.dc_script.proofs.Hex.{length-hex}
use Rattle.std.proofs.Common.{rules}

-- Words

-- No byte of the text is this one.
abbrev pub lacks : ℕ → List ℕ → Bool
lacks b text = list_all (λ c. not (eqb c b)) text

and_parts : (a b : Bool) → (a && b) ≡ true → (a ≡ true) × (b ≡ true)
and_parts true true e = (refl, refl)
and_parts true false e = (refl, e)
and_parts false b e = absurd cc

not_true : (a : Bool) → not a ≡ true → a ≡ false
not_true true e = absurd cc
not_true false e = refl

pub lacks-append : (b : ℕ) (xs ys : List ℕ) → lacks b xs ≡ true → lacks b ys ≡ true → lacks b (xs ++ ys) ≡ true
lacks-append b [] ys h k = k
lacks-append b (x ∷ xs) ys h k =
    let p = and_parts (not (eqb x b)) (lacks b xs) h in
    ap (λ t. t && lacks b (xs ++ ys)) p.0 ∙ lacks-append b xs ys p.1 k

-- A part with the byte behind it, and the last part.
pub split-part : (b : ℕ) (xs ys : List ℕ) → lacks b xs ≡ true → parts_of b (xs ++ (b ∷ ys)) ≡ xs ∷ parts_of b ys
split-part b [] ys h = slice_split-cons_yes (λ c. eqb c b) b ys (grind (arith, nat_tests))
split-part b (x ∷ xs) ys h =
    let p = and_parts (not (eqb x b)) (lacks b xs) h in
    slice_split-cons_no (λ c. eqb c b) x (xs ++ (b ∷ ys)) (not_true (eqb x b) p.0) ∙ ap (onto_first x) (split-part b xs ys p.1)

pub split-last : (b : ℕ) (xs : List ℕ) → lacks b xs ≡ true → parts_of b xs ≡ xs ∷ []
split-last b [] h = refl
split-last b (x ∷ xs) h =
    let p = and_parts (not (eqb x b)) (lacks b xs) h in
    slice_split-cons_no (λ c. eqb c b) x xs (not_true (eqb x b) p.0) ∙ ap (onto_first x) (split-last b xs p.1)

abbrev pub AllLack : ℕ → Words → Type 0
AllLack b ws = AllByRecursion (λ w. lacks b w ≡ true) ws

-- Words that are joined are parted again.
pub split-joined : (b : ℕ) (w : List ℕ) (ws : Words) → AllLack b (w ∷ ws) → parts_of b (join_with_byte b (w ∷ ws)) ≡ w ∷ ws
split-joined b w [] h = split-last b w h.0
split-joined b w (v ∷ ws) h = split-part b w (join_with_byte b (v ∷ ws)) h.0 ∙ ap (λ t. w ∷ t) (split-joined b v ws h.1)

pub joined-lacks : (b c : ℕ) (ws : Words) → eqb c b ≡ false → AllLack b ws → lacks b (join_with_byte c ws) ≡ true
joined-lacks b c [] e h = refl
joined-lacks b c (w ∷ []) e h = h.0
joined-lacks b c (w ∷ v ∷ ws) e h =
    let rest : lacks b (c ∷ join_with_byte c (v ∷ ws)) ≡ true = ap (λ t. not t && lacks b (join_with_byte c (v ∷ ws))) e ∙ joined-lacks b c (v ∷ ws) e h.1 in
    lacks-append b w (c ∷ join_with_byte c (v ∷ ws)) h.0 rest

-- A text without the line feed is one line.
pub lacks-feed : (text : List ℕ) → lacks 10 text ≡ true → IsOneLine text
lacks-feed [] h k lt = absurd (omega arith)
lacks-feed (c ∷ cs) h zero lt = λ e. let p = and_parts (not (eqb c 10)) (lacks 10 cs) h in let q = not_true (eqb c 10) p.0 in absurd (grind (arith, nat_tests))
lacks-feed (c ∷ cs) h (suc k) lt = let p = and_parts (not (eqb c 10)) (lacks 10 cs) h in lacks-feed cs p.1 k (omega arith)

pub feed-lacks : (text : List ℕ) → IsOneLine text → lacks 10 text ≡ true
feed-lacks [] h = refl
feed-lacks (c ∷ cs) h =
    let here : c ≢ 10 = h 0 (omega arith) in
    let other : eqb c 10 ≡ false = grind (arith, nat_tests) in
    ap (λ t. not t && lacks 10 cs) other ∙ feed-lacks cs (λ k lt. h (suc k) (omega arith))

-- Numbers

abbrev value_on : ℕ → List ℕ → ℕ
value_on n cs = fold (λ m c. 10 * m + (c - 48)) n cs

pub own : IsNumeralModel (λ ds. list_all is_digit ds ≡ true) (value_on 0)
own = numerals_by_fold _ (search rules) value_on (search rules)

pub value-decimal : (n : ℕ) → n < 2 ^ 64 → number_value (decimal n) ≡ n
value-decimal n h = digits_value-decimal own n h

digits-decimal : (n : ℕ) → n < 2 ^ 64 → list_all is_digit (decimal n) ≡ true
digits-decimal n h = digits_decimal own n h

-- Digits hold no byte below the first of them.
digits-lack : (b : ℕ) (cs : List ℕ) → b < 48 → list_all is_digit cs ≡ true → lacks b cs ≡ true
digits-lack b [] h d = refl
digits-lack b (c ∷ cs) h d =
    let p = and_parts (is_digit c) (list_all is_digit cs) d in
    let q = and_parts (leb 48 c) (leb c 57) p.0 in
    let low : 48 ≤ c = grind (arith, nat_tests) in
    let other : eqb c b ≡ false = grind (arith, nat_tests) in
    ap (λ t. not t && lacks b cs) other ∙ digits-lack b cs h p.1

pub decimal-lacks : (b n : ℕ) → b < 48 → n < 2 ^ 64 → lacks b (decimal n) ≡ true
decimal-lacks b n h k = digits-lack b (decimal n) h (digits-decimal n k)

number-text : (text : List ℕ) → list_all is_digit text ≡ true → 48 < get_or text 0 0 → is_number text ≡ true
number-text [] d h = absurd (omega arith)
number-text (c ∷ cs) d h =
    let more : eqb c 48 ≡ false = grind (arith, nat_tests) in
    ap (λ t. list_all is_digit (c ∷ cs) && (not t || length cs == 0)) more ∙ ap (λ t. t && true) d

number-zero : (text : List ℕ) → text ≡ 48 ∷ [] → is_number text ≡ true
number-zero text e = ap is_number e

is_number-decimal : (n : ℕ) → n < 2 ^ 64 → is_number (decimal n) ≡ true
is_number-decimal zero h = number-zero (decimal 0) (decimal_digit 0 (omega arith))
is_number-decimal (suc n) h = number-text (decimal (suc n)) (digits-decimal (suc n) h) (first_decimal (suc n) (omega arith) h)

pub number-decimal : (limit n : ℕ) → n < limit → n < 2 ^ 64 → number_below limit (decimal n) ≡ Some n
number-decimal limit n h k =
    let same = value-decimal n k in
    let below : ltb n limit ≡ true = grind (arith, nat_tests) in
    ap (λ t. cond (t && ltb (number_value (decimal n)) limit) (Some (number_value (decimal n))) None) (is_number-decimal n k)
    ∙ ap (λ v. cond (ltb v limit) (Some v) None) same ∙ ap (λ t. cond t (Some n) None) below

-- Addresses

octet-decimal : (n : ℕ) → n < 256 → octet_of (decimal n) ≡ Some n
octet-decimal n h = number-decimal 256 n h (omega arith)

octets-decimal : (a : List ℕ) → AllByRecursion (λ o. o < 256) a → octets_of (map decimal a) ≡ Some a
octets-decimal [] h = refl
octets-decimal (o ∷ os) h =
    ap (option_and_then (λ n. option_map (λ ns. n ∷ ns) (octets_of (map decimal os)))) (octet-decimal o h.0) ∙ ap (option_map (λ ns. o ∷ ns)) (octets-decimal os h.1)

decimals-lack : (b : ℕ) (a : List ℕ) → b < 48 → AllByRecursion (λ o. o < 256) a → AllLack b (map decimal a)
decimals-lack b [] h k = tt
decimals-lack b (o ∷ os) h k = (decimal-lacks b o h (omega (arith, k.0)), decimals-lack b os h k.1)

pub parts-address : (a : List ℕ) → length a ≡ 4 → AllByRecursion (λ o. o < 256) a → dotted_parts (address_text a) ≡ map decimal a
parts-address [] e h = absurd (omega arith)
parts-address (o ∷ os) e h = split-joined 46 (decimal o) (map decimal os) (decimals-lack 46 (o ∷ os) (omega arith) h)

if_four-four : (a : List ℕ) → length a ≡ 4 → if_four a ≡ Some a
if_four-four a e = let t : eqb (length a) 4 ≡ true = grind (arith, nat_tests) in ap (λ b. cond b (Some a) None) t

pub address-text : (a : List ℕ) → length a ≡ 4 → AllByRecursion (λ o. o < 256) a → address_of (address_text a) ≡ Some a
address-text a e h = ap (λ ps. option_and_then if_four (octets_of ps)) (parts-address a e h) ∙ ap (option_and_then if_four) (octets-decimal a h) ∙ if_four-four a e

pub address-lacks : (b : ℕ) (a : List ℕ) → b < 46 → AllByRecursion (λ o. o < 256) a → lacks b (address_text a) ≡ true
address-lacks b a h k = joined-lacks b 46 (map decimal a) (grind (arith, nat_tests)) (decimals-lack b a (omega arith) k)

pub values-decimal : (a : List ℕ) → AllByRecursion (λ o. o < 256) a → map number_value (map decimal a) ≡ a
values-decimal [] h = refl
values-decimal (o ∷ os) h = ap (λ v. v ∷ map number_value (map decimal os)) (value-decimal o (omega (arith, h.0))) ∙ ap (λ l. o ∷ l) (values-decimal os h.1)

joined-size : (c : ℕ) (ws : Words) → length (join_with_byte c ws) ≤ words_size ws
joined-size c [] = omega arith
joined-size c (w ∷ []) = omega arith
joined-size c (w ∷ v ∷ ws) = let rest = joined-size c (v ∷ ws) in let sum = length-append w (c ∷ join_with_byte c (v ∷ ws)) in omega (arith, rest, sum)

decimals-size : (a : List ℕ) → AllByRecursion (λ o. o < 256) a → words_size (map decimal a) ≤ 4 * length a
decimals-size [] h = omega arith
decimals-size (o ∷ os) h =
    let small = h.0 in
    let one = length-decimal-le 3 o (omega arith) (omega (arith, small)) (omega (arith, small)) in
    let rest = decimals-size os h.1 in
    omega (arith, one, rest)

pub address-short : (a : List ℕ) → length a ≡ 4 → AllByRecursion (λ o. o < 256) a → length (address_text a) ≤ 16
address-short a e h = let whole = joined-size 46 (map decimal a) in let parts = decimals-size a h in omega (arith, whole, parts, e)

-- Bytes

value_by : (n : ℕ) (b : Bool) → ltb n 10 ≡ b → lower_value (cond b (48 + n) (87 + n)) ≡ n
value_by n true e = let low : ltb (48 + n) 97 ≡ true = grind (arith, nat_tests) in ap (λ t. cond t (48 + n - 48) (48 + n - 87)) low ∙ omega arith
value_by n false e = let high : ltb (87 + n) 97 ≡ false = grind (arith, nat_tests) in ap (λ t. cond t (87 + n - 48) (87 + n - 87)) high ∙ omega arith

digit-value : (n : ℕ) → lower_value (hex_digit n) ≡ n
digit-value n = value_by n (ltb n 10) refl

pub spelled-hex : (bs : List ℕ) → bytes_spelled (hex bs) ≡ bs
spelled-hex [] = refl
spelled-hex (b ∷ bs) =
    let high = digit-value (b / 16) in
    let low = digit-value (b % 16) in
    let whole : 16 * lower_value (hex_digit (b / 16)) + lower_value (hex_digit (b % 16)) ≡ b = omega (arith, high, low) in
    ap (λ c. c ∷ bytes_spelled (hex bs)) whole ∙ ap (λ l. b ∷ l) (spelled-hex bs)

least_by : (n : ℕ) (b : Bool) → 48 ≤ cond b (48 + n) (87 + n)
least_by n true = omega arith
least_by n false = omega arith

hex-lacks : (b : ℕ) (bs : List ℕ) → b < 48 → lacks b (hex bs) ≡ true
hex-lacks b [] h = refl
hex-lacks b (c ∷ cs) h =
    let high = least_by (c / 16) (ltb (c / 16) 10) in
    let low = least_by (c % 16) (ltb (c % 16) 10) in
    let one : eqb (hex_digit (c / 16)) b ≡ false = grind (arith, nat_tests) in
    let two : eqb (hex_digit (c % 16)) b ≡ false = grind (arith, nat_tests) in
    ap (λ t. not t && (not (eqb (hex_digit (c % 16)) b) && lacks b (hex cs))) one ∙ ap (λ t. not t && lacks b (hex cs)) two ∙ hex-lacks b cs h

pub bytes-lack : (b : ℕ) (bs : List ℕ) → b < 45 → lacks b (bytes_text bs) ≡ true
bytes-lack b [] h = let other : eqb 45 b ≡ false = grind (arith, nat_tests) in ap (λ t. not t && true) other
bytes-lack b (c ∷ cs) h = hex-lacks b (c ∷ cs) (omega arith)

pub not-dash : (b : ℕ) (bs : List ℕ) → is_dash (hex (b ∷ bs)) ≡ false
not-dash b bs = elim (is_dash (hex (b ∷ bs))) as (λ t. is_dash (hex (b ∷ bs)) ≡ t → t ≡ false) [
  | true ↦ λ e. let same : hex (b ∷ bs) ≡ codes "-" = (bytes_eq-Decides (hex (b ∷ bs)) (codes "-")).0 e in absurd (omega (arith, ap length same))
  | false ↦ λ e. refl
] refl

-- The bytes that a text of bytes says.
abbrev pub bytes_back : List ℕ → List ℕ
bytes_back text = cond (is_dash text) [] (bytes_spelled text)

pub back-bytes : (bs : List ℕ) → bytes_back (bytes_text bs) ≡ bs
back-bytes [] = refl
back-bytes (b ∷ bs) = ap (λ t. cond t [] (bytes_spelled (hex (b ∷ bs)))) (not-dash b bs) ∙ spelled-hex (b ∷ bs)

lower_by : (n : ℕ) (b : Bool) → n < 16 → ltb n 10 ≡ b → is_lower_digit (cond b (48 + n) (87 + n)) ≡ true
lower_by n true h e = grind (arith, nat_tests)
lower_by n false h e = grind (arith, nat_tests)

pub hex-lower : (bs : List ℕ) → AllByRecursion (λ b. b < 256) bs → list_all is_lower_digit (hex bs) ≡ true
hex-lower [] h = refl
hex-lower (b ∷ bs) h =
    let small = h.0 in
    let high : is_lower_digit (hex_digit (b / 16)) ≡ true = lower_by (b / 16) (ltb (b / 16) 10) (omega (arith, small)) refl in
    let low : is_lower_digit (hex_digit (b % 16)) ≡ true = lower_by (b % 16) (ltb (b % 16) 10) (omega (arith, small)) refl in
    ap (λ t. t && (is_lower_digit (hex_digit (b % 16)) && list_all is_lower_digit (hex bs))) high ∙ ap (λ t. t && list_all is_lower_digit (hex bs)) low ∙ hex-lower bs h.1

spells-hex : (b : ℕ) (bs : List ℕ) → AllByRecursion (λ b. b < 256) (b ∷ bs) → length (b ∷ bs) ≤ 65535 → spells 65535 (hex (b ∷ bs)) ≡ true
spells-hex b bs h few =
    let count = length-hex (b ∷ bs) in
    let even : eqb (length (hex (b ∷ bs)) % 2) 0 ≡ true = let e : length (hex (b ∷ bs)) % 2 ≡ 0 = omega (arith, count) in grind (arith, nat_tests) in
    let some : leb 1 (length (hex (b ∷ bs))) ≡ true = let e : 1 ≤ length (hex (b ∷ bs)) = omega (arith, count) in grind (arith, nat_tests) in
    let most : leb (length (hex (b ∷ bs))) (2 * 65535) ≡ true = let e : length (hex (b ∷ bs)) ≤ 2 * 65535 = omega (arith, count, few) in grind (arith, nat_tests) in
    ap (λ t. t && (eqb (length (hex (b ∷ bs)) % 2) 0 && (leb 1 (length (hex (b ∷ bs))) && leb (length (hex (b ∷ bs))) (2 * 65535)))) (hex-lower (b ∷ bs) h)
    ∙ ap (λ t. t && (leb 1 (length (hex (b ∷ bs))) && leb (length (hex (b ∷ bs))) (2 * 65535))) even
    ∙ ap (λ t. t && leb (length (hex (b ∷ bs))) (2 * 65535)) some ∙ most

pub bytes-word : (bs : List ℕ) → AllByRecursion (λ b. b < 256) bs → length bs ≤ 65535 → bytes_word (bytes_text bs) ≡ Some bs
bytes-word [] h few = refl
bytes-word (b ∷ bs) h few =
    ap (λ t. cond t (Some []) (cond (spells 65535 (hex (b ∷ bs))) (Some (bytes_spelled (hex (b ∷ bs)))) None)) (not-dash b bs)
    ∙ ap (λ t. cond t (Some (bytes_spelled (hex (b ∷ bs)))) None) (spells-hex b bs h few) ∙ ap (λ l. Some l) (spelled-hex (b ∷ bs))
