-- The addresses that a message answers, record by record.
use Rattle.std.proofs.Common.{◌≡◌, ℕ, zero, suc, ◌+◌, ◌<◌, ◌≤◌, Bool, true, false, ◌&&◌, cond, eqb, ◌==◌, List, [], ◌∷◌, ◌++◌, length, take, get_or, map, refl, sym, ◌∙◌, ap, subst, filter, arith}
use Rattle.std.specs.Prelude.{slice_index}
use Rattle.std.specs.List.{AllByRecursion}
use Rattle.std.proofs.lemmas.List.{take_more, take_all, map-append}
use Rattle.std.proofs.lemmas.List.Elements.{filter-append}
use Rattle.std.proofs.lemmas.Bool.Decides.{nat_tests}
use Rattle.dc_model.specs.Name.{Name, same}
use Rattle.dc_model.specs.Message.{kind_a, class_in, Body, bytes, host, mx, soa, form_bytes, form_of, Record, Message, is_in, IsFormed, IsWellFormed}
use Rattle.dc_model.specs.Marks.{is_answer, answers_of}
use Rattle.dc_marks.specs.Places.{no_record}
use Rattle.dc_machine.specs.Query.{Query, top, name_of, with_address, with_addresses}
use Rattle.dc_machine.specs.Turn.{bytes_of, heard_addresses}
use Rattle.dc_heard.specs.Taken.{addresses_in, gives_address}

-- Addresses for the frame below

with_on : (q : Query) (xs ys : List (List ℕ)) → with_addresses q (xs ++ ys) ≡ with_addresses (with_addresses q xs) ys
unfolding with_addresses
with_on q [] ys = refl
with_on q (a ∷ xs) ys = with_on (with_address q a) xs ys

with_name : (q : Query) (xs : List (List ℕ)) → name_of (with_addresses q xs) ≡ name_of q
unfolding with_addresses top
with_name q [] = refl
with_name q (a ∷ xs) = with_name (with_address q a) xs

pub with_below : (q : Query) (xs : List (List ℕ)) → 1 < length q.frames → 1 < length (with_addresses q xs).frames
unfolding with_addresses
with_below q [] h = h
with_below q (a ∷ xs) h = with_below (with_address q a) xs (omega arith)

pub placed_one : (q : Query) (a : List ℕ) (xs : List (List ℕ)) → a ∷ [] ≡ xs → with_address q a ≡ with_addresses q xs
unfolding with_addresses
placed_one q a xs e = ap (with_addresses q) e

pub placed_none : (q : Query) (xs : List (List ℕ)) → [] ≡ xs → q ≡ with_addresses q xs
unfolding with_addresses
placed_none q xs e = ap (with_addresses q) e

-- Record by record

in_on : (name : Name) (rs ss : List Record) → addresses_in name (rs ++ ss) ≡ addresses_in name rs ++ addresses_in name ss
unfolding addresses_in
in_on name rs ss =
    let a : Record → Bool = λ (r : Record). is_answer r.section && same r.owner name in
    let k : Record → Bool = λ (r : Record). r.kind == kind_a && r.len == 4 in
    let b : Record → List ℕ = λ (r : Record). bytes_of r.body in
    ap (λ xs. map b (filter k (filter a xs))) (filter-append is_in rs ss)
    ∙ ap (λ xs. map b (filter k xs)) (filter-append a (filter is_in rs) (filter is_in ss))
    ∙ ap (map b) (filter-append k (filter a (filter is_in rs)) (filter a (filter is_in ss)))
    ∙ map-append b (filter k (filter a (filter is_in rs))) (filter k (filter a (filter is_in ss)))

-- the addresses of the first records
pub adds_none : (q : Query) (name : Name) (rs : List Record) → q ≡ with_addresses q (addresses_in name (take 0 rs))
unfolding with_addresses addresses_in
adds_none q name rs = refl

pub adds_more : (q q1 q2 : Query) (rs : List Record) (i : ℕ) → i < length rs → q1 ≡ with_addresses q (addresses_in (name_of q) (take i rs))
    → q2 ≡ with_addresses q1 (addresses_in (name_of q1) (get_or rs i no_record ∷ [])) → q2 ≡ with_addresses q (addresses_in (name_of q) (take (i + 1) rs))
adds_more q q1 q2 rs i h e f =
    let some : List (List ℕ) = addresses_in (name_of q) (take i rs) in
    let n : name_of q1 ≡ name_of q = ap name_of e ∙ with_name q some in
    f
    ∙ ap (λ x. with_addresses q1 (addresses_in x (get_or rs i no_record ∷ []))) n
    ∙ ap (λ (x : Query). with_addresses x (addresses_in (name_of q) (get_or rs i no_record ∷ []))) e
    ∙ sym (with_on q some (addresses_in (name_of q) (get_or rs i no_record ∷ [])))
    ∙ ap (with_addresses q) (sym (in_on (name_of q) (take i rs) (get_or rs i no_record ∷ [])))
    ∙ ap (λ xs. with_addresses q (addresses_in (name_of q) xs)) (sym (take_more rs i no_record h))

pub adds_all : (q q1 : Query) (m : Message) (n : ℕ) → length m.records ≤ n → q1 ≡ with_addresses q (addresses_in (name_of q) (take n m.records)) → q1 ≡ with_addresses q (heard_addresses q m)
unfolding addresses_in answers_of
adds_all q q1 m n h e = e ∙ ap (λ xs. with_addresses q (addresses_in (name_of q) xs)) (take_all n m.records h)

pub formed_at : (rs : List Record) (i : ℕ) → i < length rs → AllByRecursion (λ r. IsWellFormed r) rs → IsWellFormed (get_or rs i no_record)
formed_at [] i h a = absurd (omega arith)
formed_at (r ∷ rs) zero h a = a.0
formed_at (r ∷ rs) (suc i) h a = formed_at rs i (omega arith) a.1

pub ruleset placing = (placed_one, placed_none)

-- One record

both_true : (a b : Bool) → (a && b) ≡ true → (a ≡ true) × (b ≡ true)
both_true true b h = (refl, h)
both_true false b h = absurd (cc)

one_in : (name : Name) (r : Record) → addresses_in name (r ∷ []) ≡ cond (gives_address name r) (bytes_of r.body ∷ []) []
unfolding addresses_in
one_in name r = own (is_in r) (is_answer r.section && same r.owner name) (r.kind == kind_a && r.len == 4) refl refl where
  a : Record → Bool
  a = λ (s : Record). is_answer s.section && same s.owner name

  k : Record → Bool
  k = λ (s : Record). s.kind == kind_a && s.len == 4

  own : (x y z : Bool) → a r ≡ y → k r ≡ z → map (λ (s : Record). bytes_of s.body) (filter k (filter a (cond x (r ∷ []) []))) ≡ cond (x && (y && z)) (bytes_of r.body ∷ []) []
  own false y z e f = refl
  own true false z e f = rw e refl
  own true true false e f = rw (e, f) refl
  own true true true e f = rw (e, f) refl

pub gives_one : (name : Name) (r : Record) → gives_address name r ≡ true → bytes_of r.body ∷ [] ≡ addresses_in name (r ∷ [])
gives_one name r h = ap (λ b. cond b (bytes_of r.body ∷ []) []) (sym h) ∙ sym (one_in name r)

pub gives_none : (name : Name) (r : Record) → gives_address name r ≡ false → [] ≡ addresses_in name (r ∷ [])
gives_none name r h = ap (λ b. cond b (bytes_of r.body ∷ []) []) (sym h) ∙ sym (one_in name r)

formed_bytes : (n : ℕ) (b : Body) → IsFormed form_bytes n b → length (bytes_of b) ≡ n
formed_bytes n (bytes bs) h = h
formed_bytes n (host m) h = absurd h
formed_bytes n (mx preference m) h = absurd h
formed_bytes n (soa primary mailbox numbers) h = absurd h

eqb_is : (m n : ℕ) → eqb m n ≡ true → m ≡ n
eqb_is m n h = grind (arith, nat_tests)

pub gives_four : (name : Name) (r : Record) → gives_address name r ≡ true → IsWellFormed r → length (bytes_of r.body) ≡ 4
gives_four name r h w =
    let c = both_true (is_in r) ((is_answer r.section && same r.owner name) && (r.kind == kind_a && r.len == 4)) h in
    let a = both_true (is_answer r.section && same r.owner name) (r.kind == kind_a && r.len == 4) c.1 in
    let k = both_true (r.kind == kind_a) (r.len == 4) a.1 in
    let form : form_of r.kind r.class ≡ form_bytes = rw (eqb_is r.kind kind_a k.0, eqb_is r.class class_in c.0) refl in
    let l = formed_bytes r.len r.body (subst (λ f. IsFormed f r.len r.body) form w) in
    rw l (eqb_is r.len 4 k.1)

pub four_are : (bs : List ℕ) → length bs ≡ 4 → slice_index bs 0 ∷ slice_index bs 1 ∷ slice_index bs 2 ∷ slice_index bs 3 ∷ [] ≡ bs
four_are [] h = absurd (omega arith)
four_are (a ∷ []) h = absurd (omega arith)
four_are (a ∷ b ∷ []) h = absurd (omega arith)
four_are (a ∷ b ∷ c ∷ []) h = absurd (omega arith)
four_are (a ∷ b ∷ c ∷ d ∷ []) h = refl
four_are (a ∷ b ∷ c ∷ d ∷ e ∷ bs) h = absurd (omega arith)

pub ruleset four = (four_are)

pub ruleset finding = (gives_one, gives_none, gives_four)

pub ruleset adding = (adds_none, adds_more, adds_all, formed_at, with_below)
