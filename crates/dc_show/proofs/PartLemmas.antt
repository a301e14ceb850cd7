-- Texts record by record.
use Rattle.std.proofs.Common.{◌≡◌, ◌≢◌, ℕ, ◌+◌, ◌<◌, ◌≤◌, zero, suc, Bool, true, false, ◌&&◌, ◌==◌, cond, List, [], ◌∷◌, ◌++◌, length, map, flat_map, take, refl, sym, ap, ◌∙◌, subst, arith, append_assoc, Option, Some, None, option_map, option_and_then}
use Rattle.std.specs.Prelude.{slice_get, filter, filter_map, codes, decimal}
use Rattle.std.specs.List.{AllByRecursion, cons_option}
use Rattle.std.proofs.lemmas.List.{append-nil, take_all}
use Rattle.dc_model.specs.Name.{Name}
use Rattle.dc_model.specs.Message.{kind_a, kind_mx, kind_ptr, kind_txt, Section, answer, authority, additional, Body, HasNames, Record, IsRecord, is_in, Message, message_of, message_with, message_behind, QuestionRead, question_of, records_at, u16_at}
use Rattle.dc_model.specs.Line.{words}
use Rattle.dc_model.specs.Marks.{is_answer}
use Rattle.dc_model.proofs.MessageLemmas.{bound, some_of, message_of-IsMessage}
use Rattle.dc_model.proofs.PartLemmas.{mapped}
use Rattle.dc_packet.specs.Rows.{named_section, section_of, row_of, owner_of, data_of}
use Rattle.dc_packet.specs.declared.record.Rr.{Rr}
use Rattle.dc_lookup.specs.Text.{line_end, answers, first_of, host_in, first_host, text_if, address_datum, ip_text, strings_in, printed, txt_text, mx_in, mx_line, mx_lines, mx_text, record_text, host_text, name_text, question_text, header_text, packet_text, dot, section_word, data_text}
use Rattle.dc_show.specs.Parts.{is_wanted_by, is_wanted, part_of, ip_part, txt_part, mx_part, host_part}
use Rattle.dc_show.specs.Lines.{line_of}

-- Records by their numbers

pub is_there : {X : Type 0} (xs : List X) (i : ℕ) → i < length xs → (x : X) × (slice_get xs i ≡ Some x)
is_there [] i h = absurd (omega (arith, h))
is_there (x ∷ xs) zero h = (x, refl)
is_there (x ∷ xs) (suc i) h = is_there xs i (omega (arith, h))

more_at : {X : Type 0} (f : X → List ℕ) (xs : List X) (i : ℕ) (x : X) → slice_get xs i ≡ Some x → flat_map f (take i xs) ++ f x ≡ flat_map f (take (suc i) xs)
more_at f [] i x e = absurd (cc)
more_at f (y ∷ ys) zero x e = ap f (sym (some_of y x e)) ∙ sym (append-nil (f y))
more_at f (y ∷ ys) (suc i) x e = append_assoc (f y) (flat_map f (take i ys)) (f x) ∙ ap (λ (t : List ℕ). f y ++ t) (more_at f ys i x e)

pub each_more : {X : Type 0} (f : X → List ℕ) (xs : List X) (i : ℕ) (x : X) → slice_get xs i ≡ Some x → flat_map f (take i xs) ++ f x ≡ flat_map f (take (i + 1) xs)
each_more {X} f xs i x e = let next : suc i ≡ i + 1 = omega arith in more_at f xs i x e ∙ ap (λ (n : ℕ). flat_map f (take n xs)) next

pub each_whole : {X : Type 0} (f : X → List ℕ) (xs : List X) (n : ℕ) → length xs ≤ n → flat_map f (take n xs) ≡ flat_map f xs
each_whole f xs n h = ap (flat_map f) (take_all n xs h)

pub at_place : {X : Type 0} (P : X → Type 0) (xs : List X) (i : ℕ) (x : X) → AllByRecursion P xs → slice_get xs i ≡ Some x → P x
at_place P [] i x h e = absurd (cc)
at_place P (y ∷ ys) zero x h e = subst P (some_of y x e) h.0
at_place P (y ∷ ys) (suc i) x h e = at_place P ys i x h.1 e

-- A record by its row

section_back : (s : Section) → named_section (section_of s) ≡ s
section_back answer = refl
section_back authority = refl
section_back additional = refl

pub row_is : (rs : List Record) (i : ℕ) (rr : Rr) (r : Record) → option_map row_of (slice_get rs i) ≡ Some rr → slice_get rs i ≡ Some r → row_of r ≡ rr
row_is rs i rr r e h = some_of (row_of r) rr (sym (ap (option_map row_of) h) ∙ e)

pub wanted_is : (wanted : ℕ) (rs : List Record) (i : ℕ) (rr : Rr) (r : Record) → option_map row_of (slice_get rs i) ≡ Some rr → slice_get rs i ≡ Some r
    → is_wanted wanted r ≡ is_wanted_by wanted (named_section rr.section) rr.kind rr.class
wanted_is wanted rs i rr r e h =
    ap (λ (s : Section). is_wanted_by wanted s r.kind r.class) (sym (section_back r.section))
    ∙ ap (λ (x : Rr). is_wanted_by wanted (named_section x.section) x.kind x.class) (row_is rs i rr r e h)

pub line_is : (rs : List Record) (i : ℕ) (rr : Rr) (owner : Name) (body : Body) (r : Record) → option_map row_of (slice_get rs i) ≡ Some rr → option_map owner_of (slice_get rs i) ≡ Some owner
    → option_map data_of (slice_get rs i) ≡ Some body → slice_get rs i ≡ Some r → line_of rr owner body ≡ record_text r
unfolding record_text
line_is rs i rr owner body r e f g h =
    let owned : r.owner ≡ owner = some_of r.owner owner (sym (ap (option_map owner_of) h) ∙ f) in
    let told : r.body ≡ body = some_of r.body body (sym (ap (option_map data_of) h) ∙ g) in
    ap (λ (n : Name). line_of rr n body) (sym owned) ∙ ap (λ (b : Body). line_of rr r.owner b) (sym told)
    ∙ ap (λ (x : Rr). line_of x r.owner r.body) (sym (row_is rs i rr r e h))
    ∙ ap (λ (s : Section). section_word s ++ words (dot r.owner ∷ decimal r.ttl ∷ data_text r.kind r.class r.body ∷ []) ++ line_end) (section_back r.section)

pub names_are : (p : List ℕ) (m : Message) → message_of p ≡ Some m → AllByRecursion (λ r. HasNames r.body) m.records
names_are p m e = each_named m.records (message_of-IsMessage p m e).records
  where
    each_named : (rs : List Record) → AllByRecursion (IsRecord p) rs → AllByRecursion (λ r. HasNames r.body) rs
    each_named [] h = h
    each_named (r ∷ rs) h = (h.0.names, each_named rs h.1)

-- The question of a message is that of its packet.
pub question_is : (p : List ℕ) (q : QuestionRead) (m : Message) → question_of p ≡ Some q → message_of p ≡ Some m → m.question ≡ q.question
unfolding message_of
question_is p r m h e =
    let q = bound (message_behind p) (question_of p) m e in
    let an = bound (λ an. option_and_then (λ ns. option_map (message_with p q.0.question an ns) (records_at (u16_at p 10) p additional ns.after)) (records_at (u16_at p 8) p authority an.after)) (records_at (u16_at p 6) p answer q.0.after) m q.2 in
    let ns = bound (λ ns. option_map (message_with p q.0.question an.0 ns) (records_at (u16_at p 10) p additional ns.after)) (records_at (u16_at p 8) p authority an.0.after) m an.2 in
    let ar = mapped (message_with p q.0.question an.0 ns.0) (records_at (u16_at p 10) p additional ns.0.after) m ns.2 in
    sym (ap (λ (x : Message). x.question) ar.2) ∙ ap (λ (x : QuestionRead). x.question) (some_of q.0 r (sym q.1 ∙ h))

-- The wanted records

abbrev pub wanted_in : ℕ → List Record → List Record
wanted_in kind rs = filter (λ r. is_answer r.section && r.kind == kind) (filter is_in rs)

nested_by : (kind : ℕ) (b : Bool) (r : Record) (rest : List Record)
    → filter (λ x. is_answer x.section && x.kind == kind) (cond b (r ∷ rest) rest)
    ≡ cond (b && (is_answer r.section && r.kind == kind)) (r ∷ filter (λ x. is_answer x.section && x.kind == kind) rest) (filter (λ x. is_answer x.section && x.kind == kind) rest)
nested_by kind true r rest = refl
nested_by kind false r rest = refl

wanted-cons : (kind : ℕ) (r : Record) (rs : List Record) → wanted_in kind (r ∷ rs) ≡ cond (is_wanted kind r) (r ∷ wanted_in kind rs) (wanted_in kind rs)
wanted-cons kind r rs = nested_by kind (is_in r) r (filter is_in rs)

part_by : (b : Bool) (f : Record → List ℕ) (r : Record) (rs : List Record) → flat_map f (cond b (r ∷ rs) rs) ≡ text_if b (f r) ++ flat_map f rs
part_by true f r rs = refl
part_by false f r rs = refl

pub parts_are : (kind : ℕ) (f : Record → List ℕ) (rs : List Record) → flat_map (part_of kind f) rs ≡ flat_map f (wanted_in kind rs)
parts_are kind f [] = refl
parts_are kind f (r ∷ rs) =
    ap (λ (t : List ℕ). part_of kind f r ++ t) (parts_are kind f rs) ∙ sym (part_by (is_wanted kind r) f r (wanted_in kind rs)) ∙ ap (flat_map f) (sym (wanted-cons kind r rs))

pub ip_is : (m n : Message) → m ≡ n → flat_map ip_part m.records ++ line_end ≡ ip_text n
unfolding ip_text answers
ip_is m n e = ap (λ (t : List ℕ). t ++ line_end) (parts_are kind_a (λ r. address_datum r.body) m.records) ∙ ap ip_text e

map_each : (f : ℕ → ℕ) (g : Record → List ℕ) (rs : List Record) → flat_map (λ r. map f (g r)) rs ≡ map f (flat_map g rs)
map_each f g [] = refl
map_each f g (r ∷ rs) = ap (λ (t : List ℕ). map f (g r) ++ t) (map_each f g rs) ∙ sym (map-both (g r) (flat_map g rs))
  where
    map-both : (xs ys : List ℕ) → map f (xs ++ ys) ≡ map f xs ++ map f ys
    map-both [] ys = refl
    map-both (x ∷ xs) ys = ap (λ (t : List ℕ). f x ∷ t) (map-both xs ys)

pub txt_is : (m n : Message) → m ≡ n → flat_map txt_part m.records ++ line_end ≡ txt_text n
unfolding txt_text answers
txt_is m n e =
    ap (λ (t : List ℕ). t ++ line_end) (parts_are kind_txt (λ r. map printed (strings_in r.body)) m.records ∙ map_each printed (λ r. strings_in r.body) (wanted_in kind_txt m.records))
    ∙ ap txt_text e

lines_by : (name : Name) (rs : List Record) → (rs ≡ [] → ⊥) → mx_lines name rs ≡ flat_map (λ r. mx_in r.body) rs
lines_by name [] h = absurd (h refl)
lines_by name (r ∷ rs) h = refl

pub mx_some : (name : Name) (m : Message) → answers kind_mx m ≢ [] → flat_map mx_part m.records ≡ mx_text name m
unfolding mx_text answers
mx_some name m h = parts_are kind_mx (λ r. mx_in r.body) m.records ∙ sym (lines_by name (wanted_in kind_mx m.records) h)

pub mx_none : (name : Name) (m : Message) → answers kind_mx m ≡ [] → mx_line 0 name ≡ mx_text name m
unfolding mx_text
mx_none name m h = ap (mx_lines name) (sym h)

-- Whether one is wanted

none_by : (b : Bool) (r : Record) (rs : List Record) → b ≡ false → cond b (r ∷ rs) rs ≡ rs
none_by true r rs h = cc
none_by false r rs h = refl

none_in : (kind : ℕ) (rs : List Record) → ((k : ℕ) → k < length rs → (r : Record) → slice_get rs k ≡ Some r → is_wanted kind r ≡ false) → wanted_in kind rs ≡ []
none_in kind [] h = refl
none_in kind (r ∷ rs) h =
    wanted-cons kind r rs ∙ none_by (is_wanted kind r) r (wanted_in kind rs) (h 0 (omega arith) r refl)
    ∙ none_in kind rs (λ k l x e. h (suc k) (omega (arith, l)) x e)

pub none_wanted : (kind : ℕ) (m : Message) → ((k : ℕ) → k < length m.records → (r : Record) → slice_get m.records k ≡ Some r → is_wanted kind r ≡ false) → answers kind m ≡ []
unfolding answers
none_wanted kind m h = none_in kind m.records h

some_by : (b : Bool) (r : Record) (rs : List Record) → b ≡ true → cond b (r ∷ rs) rs ≡ [] → ⊥
some_by true r rs h e = cc
some_by false r rs h e = cc

more_by : (b : Bool) (r : Record) (rs : List Record) → (rs ≡ [] → ⊥) → cond b (r ∷ rs) rs ≡ [] → ⊥
more_by true r rs h e = cc
more_by false r rs h e = h e

some_in : (kind : ℕ) (rs : List Record) (i : ℕ) (r : Record) → slice_get rs i ≡ Some r → is_wanted kind r ≡ true → wanted_in kind rs ≡ [] → ⊥
some_in kind [] i r e h n = cc
some_in kind (x ∷ xs) zero r e h n = some_by (is_wanted kind x) x (wanted_in kind xs) (ap (is_wanted kind) (some_of x r e) ∙ h) (sym (wanted-cons kind x xs) ∙ n)
some_in kind (x ∷ xs) (suc i) r e h n = more_by (is_wanted kind x) x (wanted_in kind xs) (some_in kind xs i r e h) (sym (wanted-cons kind x xs) ∙ n)

pub some_wanted : (kind : ℕ) (m : Message) (i : ℕ) (r : Record) → slice_get m.records i ≡ Some r → is_wanted kind r ≡ true → answers kind m ≢ []
unfolding answers
some_wanted kind m i r e h n = some_in kind m.records i r e h n

-- The first name

abbrev firsts : List Record → Option Name
firsts rs = first_of (filter_map (λ r. host_in r.body) (wanted_in kind_ptr rs))

abbrev or_first : Option Name → Option Name → Option Name
or_first None o = o
or_first (Some n) o = Some n

first_cons : (o : Option Name) (ns : List Name) → first_of (cons_option o ns) ≡ or_first o (first_of ns)
first_cons None ns = refl
first_cons (Some n) ns = refl

firsts_by : (b : Bool) (r : Record) (rs : List Record)
    → first_of (filter_map (λ r. host_in r.body) (cond b (r ∷ rs) rs)) ≡ or_first (cond b (host_in r.body) None) (first_of (filter_map (λ r. host_in r.body) rs))
firsts_by true r rs = first_cons (host_in r.body) (filter_map (λ r. host_in r.body) rs)
firsts_by false r rs = refl

firsts-cons : (r : Record) (rs : List Record) → firsts (r ∷ rs) ≡ or_first (host_part r) (firsts rs)
firsts-cons r rs = ap (λ (xs : List Record). first_of (filter_map (λ r. host_in r.body) xs)) (wanted-cons kind_ptr r rs) ∙ firsts_by (is_wanted kind_ptr r) r (wanted_in kind_ptr rs)

firsts_none : (rs : List Record) → ((k : ℕ) → k < length rs → (r : Record) → slice_get rs k ≡ Some r → host_part r ≡ None) → None ≡ firsts rs
firsts_none [] h = refl
firsts_none (r ∷ rs) h =
    firsts_none rs (λ k l x e. h (suc k) (omega (arith, l)) x e) ∙ ap (λ o. or_first o (firsts rs)) (sym (h 0 (omega arith) r refl)) ∙ sym (firsts-cons r rs)

pub no_host : (m : Message) → ((k : ℕ) → k < length m.records → (r : Record) → slice_get m.records k ≡ Some r → host_part r ≡ None) → None ≡ first_host m
unfolding first_host answers
no_host m h = firsts_none m.records h

firsts_some : (rs : List Record) (i : ℕ) (r : Record) (n : Name) → ((k : ℕ) → k < i → (x : Record) → slice_get rs k ≡ Some x → host_part x ≡ None) → slice_get rs i ≡ Some r → Some n ≡ host_part r → Some n ≡ firsts rs
firsts_some [] i r n h e f = absurd (cc)
firsts_some (x ∷ xs) zero r n h e f =
    ap (λ o. or_first o (firsts xs)) (f ∙ ap (λ (y : Record). host_part y) (sym (some_of x r e))) ∙ sym (firsts-cons x xs)
firsts_some (x ∷ xs) (suc i) r n h e f =
    firsts_some xs i r n (λ k l y g. h (suc k) (omega (arith, l)) y g) e f ∙ ap (λ o. or_first o (firsts xs)) (sym (h 0 (omega arith) x refl)) ∙ sym (firsts-cons x xs)

pub a_host : (m : Message) (i : ℕ) (r : Record) (n : Name) → ((k : ℕ) → k < i → (x : Record) → slice_get m.records k ≡ Some x → host_part x ≡ None) → slice_get m.records i ≡ Some r → Some n ≡ host_part r
    → Some n ≡ first_host m
unfolding first_host answers
a_host m i r n h e f = firsts_some m.records i r n h e f

pub name_is : (m n : Message) (o : Option Name) → o ≡ first_host m → m ≡ n → host_text o ++ line_end ≡ name_text n
unfolding name_text
name_is m n o h e = ap (λ (x : Option Name). host_text x ++ line_end) h ∙ ap name_text e

regroup : (a b c d e f g h : List ℕ) → (((a ++ (b ++ c)) ++ ((d ++ e) ++ f)) ++ g) ++ h ≡ ((((((a ++ b) ++ c) ++ d) ++ e) ++ f) ++ g) ++ h
regroup a b c d e f g h = simp append_assoc

pub packet_is : (name : Name) (kind : ℕ) (p : List ℕ) (m n : Message) → m ≡ n
    → (((question_text kind name ++ (58 ∷ 10 ∷ [])) ++ (header_text p ++ codes "query: " ++ question_text m.question.kind m.question.name)) ++ line_end) ++ flat_map record_text m.records ≡ packet_text name kind p n
unfolding packet_text
packet_is name kind p m n e =
    regroup (question_text kind name) (codes ":") line_end (header_text p) (codes "query: ") (question_text m.question.kind m.question.name) line_end (flat_map record_text m.records)
    ∙ ap (λ (x : Message). packet_text name kind p x) e
