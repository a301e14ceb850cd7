-- A line that is read as an event is the line of that event.
use Rattle.std.proofs.Common.{◌≡◌, ℕ, suc, zero, ◌+◌, ◌-◌, ◌*◌, ◌/◌, ◌%◌, ◌^◌, ◌<◌, ◌≤◌, Bool, true, false, not, ◌&&◌, ◌||◌, ◌==◌, cond, eqb, ltb, leb, bytes_eq, List, [], ◌∷◌, ◌++◌, length, map, get_or, codes, decimal, Option, Some, None, option_map, option_and_then, refl, sym, ◌∙◌, ap, subst, arith, ◌⊎◌, inl, inr}
use Rattle.std.specs.List.{slice_index, list_all, join_with_byte, AllByRecursion}
use Rattle.std.proofs.lemmas.Bool.Decides.{nat_tests}
use Rattle.std.proofs.lemmas.Slice.Eq.{bytes_eq-Decides}
use Rattle.std.proofs.lemmas.List.{append-nil}
use Rattle.std.proofs.lemmas.List.Splits.{join_with_byte-slice_split}
use Rattle.std.proofs.lemmas.Fmt.{decimal-digits_value}
use Rattle.dc_model.specs.Event.{Event, Kind, tick, request, datagram, link_up, link_bytes, link_down, bind_refused, conn_up, conn_bytes, conn_down}
use Rattle.dc_model.specs.Name.{is_digit, is_number, number_value, octet_of, octets_of, dotted_parts, address_of, if_four}
use Rattle.dc_model.specs.Line.{words, hex, hex_byte, hex_digit}
use Rattle.dc_model.specs.Places.{no_address}
use Rattle.dc_text.specs.Numbers.{number_below}
use Rattle.dc_script.specs.Script.{Words, words_of, is_lower_digit, lower_value, bytes_spelled, spells, is_dash, bytes_word, kind_word, has_number, has_sender, has_bytes_word, taken_if, behind_at, moment_taken, kind_taken, at_end, event_said, event_of_line}
use Rattle.dc_model.specs.Address.{address_text}
use Rattle.dc_script.specs.Text.{bytes_text}
use Rattle.dc_script.specs.EventText.{kind_text, word_if, event_words, event_text, IsWritten}
use Rattle.dc_script.proofs.Hex.{bytes_text_some}
use Rattle.dc_script.proofs.Spelling.{own}

-- Options and tests

pub bind_back : {A B : Type 0} (f : A → Option B) (o : Option A) (y : B) → option_and_then f o ≡ Some y → (x : A) × (o ≡ Some x) × (f x ≡ Some y)
bind_back f None y e = absurd cc
bind_back f (Some x) y e = (x, refl, e)

pub map_back : {A B : Type 0} (f : A → B) (o : Option A) (y : B) → option_map f o ≡ Some y → (x : A) × (o ≡ Some x) × (f x ≡ y)
map_back f None y e = absurd cc
map_back f (Some x) y e = (x, refl, cc)

pub chosen : {A : Type 0} (b : Bool) (x : A) (o : Option A) (y : A) → cond b (Some x) o ≡ Some y → ((b ≡ true) × (x ≡ y)) ⊎ ((b ≡ false) × (o ≡ Some y))
chosen true x o y e = inl (refl, cc)
chosen false x o y e = inr (refl, e)

pub both_true : (a b : Bool) → (a && b) ≡ true → (a ≡ true) × (b ≡ true)
both_true true true e = (refl, refl)
both_true true false e = (refl, e)
both_true false b e = absurd cc

pub if_true : {A : Type 0} (b : Bool) (x y : A) → cond b (Some x) None ≡ Some y → (b ≡ true) × (x ≡ y)
if_true true x y e = (refl, cc)
if_true false x y e = absurd cc

pub same_text : (w t : List ℕ) → bytes_eq w t ≡ true → w ≡ t
same_text w t e = (bytes_eq-Decides w t).0 e

-- Numbers

one_zero : (c : ℕ) (cs : List ℕ) → (not (c == 48) || length cs == 0) ≡ true → get_or (c ∷ cs) 0 0 ≡ 48 → length (c ∷ cs) ≡ 1
one_zero c [] t e = refl
one_zero c (d ∷ cs) t e =
    let same : eqb c 48 ≡ true = grind (arith, nat_tests) in
    let never : eqb (length (d ∷ cs)) 0 ≡ false = grind (arith, nat_tests) in
    let wrong : (not true || false) ≡ true = ap (λ b. not true || b) (sym never) ∙ ap (λ b. not b || length (d ∷ cs) == 0) (sym same) ∙ t in
    absurd cc

number_is : (w : List ℕ) → is_number w ≡ true → number_value w < 2 ^ 64 → decimal (number_value w) ≡ w
number_is [] t h = absurd cc
number_is (c ∷ cs) t h =
    let p = both_true (list_all is_digit (c ∷ cs)) (not (c == 48) || length cs == 0) t in
    decimal-digits_value own (c ∷ cs) p.0 (omega arith) (one_zero c cs p.1) h

pub number_back : (limit : ℕ) (w : List ℕ) (n : ℕ) → limit ≤ 2 ^ 64 → number_below limit w ≡ Some n → (w ≡ decimal n) × (n < limit)
number_back limit w n few e =
    let p = if_true (is_number w && ltb (number_value w) limit) (number_value w) n e in
    let q = both_true (is_number w) (ltb (number_value w) limit) p.0 in
    let below : number_value w < limit = let t = q.1 in grind (arith, nat_tests) in
    let value = p.1 in
    (sym (number_is w q.0 (omega (arith, below, few))) ∙ ap decimal value, omega (arith, below, value))

-- Addresses

octets_back : (ts : Words) (a : List ℕ) → octets_of ts ≡ Some a → (ts ≡ map decimal a) × AllByRecursion (λ o. o < 256) a
octets_back [] [] e = (refl, tt)
octets_back [] (o ∷ os) e = absurd cc
octets_back (t ∷ ts) a e =
    let p = bind_back (λ n. option_map (λ ns. n ∷ ns) (octets_of ts)) (octet_of t) a e in
    let q = map_back (λ ns. p.0 ∷ ns) (octets_of ts) a p.2 in
    let one = number_back 256 t p.0 (omega arith) p.1 in
    let rest = octets_back ts q.0 q.1 in
    let P : List ℕ → Type 0 = λ b. (t ∷ ts ≡ map decimal b) × AllByRecursion (λ o. o < 256) b in
    subst P q.2 (ap (λ u. u ∷ ts) one.0 ∙ ap (λ us. decimal p.0 ∷ us) rest.0, (one.1, rest.1))

-- Four octets.
abbrev pub IsFour : List ℕ → Type 0
IsFour a = (length a ≡ 4) × AllByRecursion (λ o. o < 256) a

pub address_back : (w a : List ℕ) → address_of w ≡ Some a → (w ≡ address_text a) × IsFour a
address_back w a e =
    let p = bind_back if_four (octets_of (dotted_parts w)) a e in
    let q = if_true (length p.0 == 4) p.0 a p.2 in
    let octets = octets_back (dotted_parts w) p.0 p.1 in
    let four : length p.0 ≡ 4 = let t = q.0 in grind (arith, nat_tests) in
    let P : List ℕ → Type 0 = λ b. (w ≡ address_text b) × IsFour b in
    subst P q.1 (sym (join_with_byte-slice_split 46 w) ∙ ap (join_with_byte 46) octets.0, (four, octets.1))

-- Bytes

digit_low : (c : ℕ) → is_lower_digit c ≡ true → lower_value c < 16
digit_low c t = grind (arith, nat_tests)

digit_by : (c : ℕ) (b : Bool) → ltb c 97 ≡ b → is_lower_digit c ≡ true → hex_digit (cond b (c - 48) (c - 87)) ≡ c
digit_by c true e t = grind (arith, nat_tests)
digit_by c false e t = grind (arith, nat_tests)

digit_back : (c : ℕ) → is_lower_digit c ≡ true → hex_digit (lower_value c) ≡ c
digit_back c t = digit_by c (ltb c 97) refl t

byte_back : (c d : ℕ) → is_lower_digit c ≡ true → is_lower_digit d ≡ true → hex_byte (16 * lower_value c + lower_value d) ≡ c ∷ d ∷ []
byte_back c d s t =
    let low_c = digit_low c s in
    let low_d = digit_low d t in
    let high : (16 * lower_value c + lower_value d) / 16 ≡ lower_value c = omega (arith, low_c, low_d) in
    let low : (16 * lower_value c + lower_value d) % 16 ≡ lower_value d = omega (arith, low_c, low_d) in
    ap (λ n. hex_digit n ∷ hex_digit ((16 * lower_value c + lower_value d) % 16) ∷ []) high ∙ ap (λ n. hex_digit (lower_value c) ∷ hex_digit n ∷ []) low
    ∙ ap (λ n. n ∷ hex_digit (lower_value d) ∷ []) (digit_back c s) ∙ ap (λ n. c ∷ n ∷ []) (digit_back d t)

-- Bytes below 256, half as many as digits.
pub record AreSpelled (w : List ℕ) : Type 0 where
  pub text : hex (bytes_spelled w) ≡ w
  pub small : AllByRecursion (λ b. b < 256) (bytes_spelled w)
  pub half : 2 * length (bytes_spelled w) ≡ length w

pub spelled_back : (w : List ℕ) → list_all is_lower_digit w ≡ true → length w % 2 ≡ 0 → AreSpelled w
spelled_back [] t e = record { text = refl; small = tt; half = refl }
spelled_back (c ∷ []) t e = absurd (omega (arith, e))
spelled_back (c ∷ d ∷ cs) t e =
    let p = both_true (is_lower_digit c) (list_all is_lower_digit (d ∷ cs)) t in
    let q = both_true (is_lower_digit d) (list_all is_lower_digit cs) p.1 in
    let rest = spelled_back cs q.1 (omega (arith, e)) in
    let low_c = digit_low c p.0 in
    let low_d = digit_low d q.0 in
    let half = rest.half in
    record {
      text = ap (λ t. t ++ hex (bytes_spelled cs)) (byte_back c d p.0 q.0) ∙ ap (λ t. c ∷ d ∷ t) rest.text;
      small = (omega (arith, low_c, low_d), rest.small);
      half = omega (arith, half);
    }

-- Bytes of an event.
abbrev AreFew : List ℕ → Type 0
AreFew bs = AllByRecursion (λ b. b < 256) bs × (length bs ≤ 65535)

spells_back : (w : List ℕ) → spells 65535 w ≡ true → (w ≡ bytes_text (bytes_spelled w)) × AreFew (bytes_spelled w)
spells_back w t =
    let p = both_true (list_all is_lower_digit w) (length w % 2 == 0 && (leb 1 (length w) && leb (length w) (2 * 65535))) t in
    let q = both_true (length w % 2 == 0) (leb 1 (length w) && leb (length w) (2 * 65535)) p.1 in
    let r = both_true (leb 1 (length w)) (leb (length w) (2 * 65535)) q.1 in
    let even : length w % 2 ≡ 0 = let s = q.0 in grind (arith, nat_tests) in
    let some : 1 ≤ length w = let s = r.0 in grind (arith, nat_tests) in
    let most : length w ≤ 2 * 65535 = let s = r.1 in grind (arith, nat_tests) in
    let are = spelled_back w p.0 even in
    let half = are.half in
    (sym are.text ∙ sym (bytes_text_some (bytes_spelled w) (omega (arith, half, some))), (are.small, omega (arith, half, most)))

bytes_back : (w bs : List ℕ) → bytes_word w ≡ Some bs → (w ≡ bytes_text bs) × AreFew bs
bytes_back w bs e =
    let P : List ℕ → Type 0 = λ b. (w ≡ bytes_text b) × AreFew b in
    elim (chosen (is_dash w) [] (cond (spells 65535 w) (Some (bytes_spelled w)) None) bs e) [
      | inl p ↦ subst P p.1 (same_text w (codes "-") p.0, (tt, omega arith))
      | inr p ↦ let q = if_true (spells 65535 w) (bytes_spelled w) bs p.1 in subst P q.1 (spells_back w q.0)
    ]

-- Kinds

-- A word was tested against that of a kind.
kind_by : (w : List ℕ) (k : Kind) (o : Option Kind) → ((j : Kind) → o ≡ Some j → w ≡ kind_text j) → (j : Kind) → cond (bytes_eq w (kind_text k)) (Some k) o ≡ Some j → w ≡ kind_text j
kind_by w k o others j e = elim (chosen (bytes_eq w (kind_text k)) k o j e) [
  | inl p ↦ same_text w (kind_text k) p.0 ∙ ap kind_text p.1
  | inr p ↦ others j p.1
]

kind_back : (w : List ℕ) (j : Kind) → kind_word w ≡ Some j → w ≡ kind_text j
kind_back w =
    kind_by w tick _ (kind_by w request _ (kind_by w datagram _ (kind_by w link_up _ (kind_by w link_bytes _ (kind_by w link_down _ (kind_by w bind_refused _
    (kind_by w conn_up _ (kind_by w conn_bytes _ (kind_by w conn_down None (λ j e. absurd cc))))))))))

-- Words that are taken off

taken_back : {A : Type 0} (text : A → List ℕ) (P : A → Type 0) (wanted : Bool) (absent : A) (read : List ℕ → Option A) → P absent → ((w : List ℕ) (v : A) → read w ≡ Some v → (w ≡ text v) × P v)
    → (ws : Words) (x : A × Words) → taken_if wanted absent read ws ≡ Some x → (ws ≡ word_if wanted (text x.0) ++ x.1) × P x.0 × (wanted ≡ false → x.0 ≡ absent)
unfolding taken_if
taken_back {A} text P false absent read none back ws x e =
    let same : (absent, ws) ≡ x = cc in
    let Q : (A × Words) → Type 0 = λ y. (ws ≡ word_if false (text y.0) ++ y.1) × P y.0 × (false ≡ false → y.0 ≡ absent) in
    subst Q same (refl, none, λ h. refl)
taken_back {A} text P true absent read none back [] x e = absurd cc
taken_back {A} text P true absent read none back (w ∷ ws) x e =
    let p = map_back (λ (v : A). (v, ws)) (read w) x e in
    let one = back w p.0 p.1 in
    let Q : (A × Words) → Type 0 = λ y. (w ∷ ws ≡ word_if true (text y.0) ++ y.1) × P y.0 × (true ≡ false → y.0 ≡ absent) in
    subst Q p.2 (ap (λ u. u ∷ ws) one.0, one.1, λ h. absurd cc)

behind_back : (ws said : Words) → behind_at ws ≡ Some said → ws ≡ codes "at" ∷ said
unfolding behind_at
behind_back [] said e = absurd cc
behind_back (w ∷ ws) said e =
    let p = if_true (bytes_eq w (codes "at")) ws said e in
    ap (λ u. u ∷ ws) (same_text w (codes "at") p.0) ∙ ap (λ us. codes "at" ∷ us) p.1

moment_back : (ws : Words) (x : ℕ × Words) → moment_taken ws ≡ Some x → (ws ≡ decimal x.0 ∷ x.1) × (x.0 < 2 ^ 62)
unfolding moment_taken
moment_back [] x e = absurd cc
moment_back (w ∷ ws) x e =
    let p = map_back (λ (v : ℕ). (v, ws)) (number_below (2 ^ 62) w) x e in
    let one = number_back (2 ^ 62) w p.0 (omega arith) p.1 in
    let Q : (ℕ × Words) → Type 0 = λ y. (w ∷ ws ≡ decimal y.0 ∷ y.1) × (y.0 < 2 ^ 62) in
    subst Q p.2 (ap (λ u. u ∷ ws) one.0, one.1)

kinds_back : (ws : Words) (x : Kind × Words) → kind_taken ws ≡ Some x → ws ≡ kind_text x.0 ∷ x.1
unfolding kind_taken
kinds_back [] x e = absurd cc
kinds_back (w ∷ ws) x e =
    let p = map_back (λ (v : Kind). (v, ws)) (kind_word w) x e in
    let Q : (Kind × Words) → Type 0 = λ y. w ∷ ws ≡ kind_text y.0 ∷ y.1 in
    subst Q p.2 (ap (λ u. u ∷ ws) (kind_back w p.0 p.1))

end_back : (ws : Words) (v e : Event) → at_end ws v ≡ Some e → (ws ≡ []) × (v ≡ e)
unfolding at_end
end_back [] v e h = (refl, cc)
end_back (w ∷ ws) v e h = absurd cc

-- Events

each_octet : (bs : List ℕ) → AllByRecursion (λ b. b < 256) bs → (i : ℕ) → slice_index bs i < 256
each_octet [] h i = omega arith
each_octet (b ∷ bs) h zero = h.0
each_octet (b ∷ bs) h (suc i) = each_octet bs h.1 i

said_back : (ws : Words) (e : Event) → event_said ws ≡ Some e → (ws ≡ event_words e) × IsWritten e
unfolding event_said
said_back ws e h =
    let a = bind_back _ (behind_at ws) e h in
    let b = bind_back _ (moment_taken a.0) e a.2 in
    let c = bind_back _ (kind_taken b.0.1) e b.2 in
    let k = c.0.0 in
    let d = bind_back _ (taken_if (has_number k) 0 (number_below (2 ^ 64)) c.0.1) e c.2 in
    let f = bind_back _ (taken_if (has_sender k) no_address address_of d.0.1) e d.2 in
    let g = bind_back _ (taken_if (has_sender k) 0 (number_below (2 ^ 16)) f.0.1) e f.2 in
    let i = bind_back _ (taken_if (has_bytes_word k) [] bytes_word g.0.1) e g.2 in
    let z = end_back i.0.1 _ e i.2 in
    let at = behind_back ws a.0 a.1 in
    let moment = moment_back a.0 b.0 b.1 in
    let kind = kinds_back b.0.1 c.0 c.1 in
    let number = taken_back decimal (λ n. n < 2 ^ 64) (has_number k) 0 (number_below (2 ^ 64)) (omega arith) (λ w v s. number_back (2 ^ 64) w v (omega arith) s) c.0.1 d.0 d.1 in
    let addr = taken_back address_text IsFour (has_sender k) no_address address_of (refl, (omega arith, (omega arith, (omega arith, (omega arith, tt))))) address_back d.0.1 f.0 f.1 in
    let port = taken_back decimal (λ n. n < 2 ^ 16) (has_sender k) 0 (number_below (2 ^ 16)) (omega arith) (λ w v s. number_back (2 ^ 16) w v (omega arith) s) f.0.1 g.0 g.1 in
    let bytes = taken_back bytes_text AreFew (has_bytes_word k) [] bytes_word (tt, omega arith) bytes_back g.0.1 i.0 i.1 in
    let whole : i.0.1 ≡ [] = z.0 in
    let P : Event → Type 0 = λ v. (ws ≡ event_words v) × IsWritten v in
    subst P z.1 (
      at ∙ ap (λ l. codes "at" ∷ l) moment.0 ∙ ap (λ l. codes "at" ∷ decimal b.0.0 ∷ l) kind ∙ ap (λ l. codes "at" ∷ decimal b.0.0 ∷ kind_text k ∷ l) (
          number.0 ∙ ap (λ l. word_if (has_number k) (decimal d.0.0) ++ l) (
          addr.0 ∙ ap (λ l. word_if (has_sender k) (address_text f.0.0) ++ l) (
          port.0 ∙ ap (λ l. word_if (has_sender k) (decimal g.0.0) ++ l) (
          bytes.0 ∙ ap (λ l. word_if (has_bytes_word k) (bytes_text i.0.0) ++ l) whole ∙ append-nil (word_if (has_bytes_word k) (bytes_text i.0.0)))))),
      record {
        bounds = record { moment = moment.1; numbered = number.1; octets = addr.1.0; port_bound = port.1; most = bytes.1.1; octet = each_octet i.0.0 bytes.1.0 };
        octets = addr.1.1;
        bytes = bytes.1.0;
        no_number = number.2;
        no_sender = λ t. (addr.2 t, port.2 t);
        no_bytes = bytes.2;
      },
    )

pub line-back : (text : List ℕ) (e : Event) → event_of_line text ≡ Some e → (text ≡ event_text e) × IsWritten e
unfolding event_of_line event_text
line-back text e h =
    let p = said_back (words_of text) e h in
    (sym (join_with_byte-slice_split 32 text) ∙ ap words p.0, p.1)
