-- The servers of a zone that a message names, record by record.
use Rattle.std.proofs.Common.{◌≡◌, ℕ, zero, suc, ◌+◌, ◌<◌, ◌≤◌, Bool, true, false, ◌&&◌, cond, ◌==◌, List, [], ◌∷◌, ◌++◌, length, take, get_or, map, refl, sym, ◌∙◌, ap, filter, arith, length-append}
use Rattle.std.proofs.lemmas.List.{take_more, take_all, map-append, append-nil}
use Rattle.std.proofs.lemmas.List.Elements.{filter-append}
use Rattle.dc_model.specs.Name.{Name, same}
use Rattle.dc_model.specs.Message.{kind_ns, Record, Message, is_in}
use Rattle.dc_model.specs.Marks.{is_authority, authority_of, host_of}
use Rattle.dc_marks.specs.Places.{no_record}
use Rattle.dc_machine.specs.Query.{Query, Frame, top, below, top_of, with_zone, with_hosts}
use Rattle.dc_machine.specs.Turn.{referred_hosts}
use Rattle.dc_heard.specs.Taken.{hosts_in, gives_host}

hosts_on : (zone : Name) (rs ss : List Record) → hosts_in zone (rs ++ ss) ≡ hosts_in zone rs ++ hosts_in zone ss
unfolding hosts_in
hosts_on zone rs ss =
    let a : Record → Bool = λ (r : Record). is_authority r.section in
    let k : Record → Bool = λ (r : Record). r.kind == kind_ns && same r.owner zone in
    let b : Record → Name = λ (r : Record). host_of r.body in
    ap (λ xs. map b (filter k (filter a xs))) (filter-append is_in rs ss)
    ∙ ap (λ xs. map b (filter k xs)) (filter-append a (filter is_in rs) (filter is_in ss))
    ∙ ap (map b) (filter-append k (filter a (filter is_in rs)) (filter a (filter is_in ss)))
    ∙ map-append b (filter k (filter a (filter is_in rs))) (filter k (filter a (filter is_in ss)))

-- the first of the first and of others
take_on : (n : ℕ) (xs ys : List Name) → take n (take n xs ++ ys) ≡ take n (xs ++ ys)
take_on zero xs ys = refl
take_on (suc n) [] ys = refl
take_on (suc n) (x ∷ xs) ys = ap (λ zs. x ∷ zs) (take_on n xs ys)

-- the servers that the first records name
pub counts_none : (zone : Name) (rs : List Record) → 0 ≡ length (take 16 (hosts_in zone (take 0 rs)))
unfolding hosts_in
counts_none zone rs = refl

pub looks_none : (q q1 : Query) (zone : Name) (rs : List Record) (places : List (List ℕ)) → q1 ≡ with_zone q zone [] places → q1 ≡ with_zone q zone (take 16 (hosts_in zone (take 0 rs))) places
unfolding hosts_in
looks_none q q1 zone rs places e = e

hosts_more : (zone : Name) (rs : List Record) (i : ℕ) (more : List Name) → i < length rs → more ≡ hosts_in zone (get_or rs i no_record ∷ [])
    → take 16 (take 16 (hosts_in zone (take i rs)) ++ more) ≡ take 16 (hosts_in zone (take (i + 1) rs))
hosts_more zone rs i more h e =
    ap (λ ys. take 16 (take 16 (hosts_in zone (take i rs)) ++ ys)) e
    ∙ take_on 16 (hosts_in zone (take i rs)) (hosts_in zone (get_or rs i no_record ∷ []))
    ∙ ap (take 16) (sym (hosts_on zone (take i rs) (get_or rs i no_record ∷ [])))
    ∙ ap (λ xs. take 16 (hosts_in zone xs)) (sym (take_more rs i no_record h))

zone_hosts : (q q1 : Query) (zone : Name) (hosts : List Name) (places : List (List ℕ)) → q1 ≡ with_zone q zone hosts places → (top_of q1).hosts ≡ hosts
unfolding top
zone_hosts q q1 zone hosts places e = ap (λ (x : Query). (top_of x).hosts) e

pub zone_counts : (q q1 : Query) (zone : Name) (hosts : List Name) (places : List (List ℕ)) (n : ℕ) → q1 ≡ with_zone q zone hosts places → n ≡ length hosts → n ≡ length (top_of q1).hosts
zone_counts q q1 zone hosts places n e h = h ∙ ap length (sym (zone_hosts q q1 zone hosts places e))

pub looks_more : (q q1 q2 : Query) (zone : Name) (rs : List Record) (i : ℕ) (places : List (List ℕ)) (more : List Name) → i < length rs
    → q1 ≡ with_zone q zone (take 16 (hosts_in zone (take i rs))) places → more ≡ hosts_in zone (get_or rs i no_record ∷ [])
    → q2 ≡ with_hosts q1 (take 16 ((top_of q1).hosts ++ more)) → q2 ≡ with_zone q zone (take 16 (hosts_in zone (take (i + 1) rs))) places
unfolding top below
looks_more q q1 q2 zone rs i places more h e m f =
    let some : List Name = take 16 (hosts_in zone (take i rs)) in
    f
    ∙ ap (λ xs. with_hosts q1 (take 16 (xs ++ more))) (zone_hosts q q1 zone some places e)
    ∙ ap (λ (x : Query). with_hosts x (take 16 (some ++ more))) e
    ∙ ap (λ xs. with_zone q zone xs places) (hosts_more zone rs i more h m)

pub counts_more : (q q1 : Query) (zone : Name) (rs : List Record) (i n : ℕ) (places : List (List ℕ)) (more : List Name) → i < length rs
    → q1 ≡ with_zone q zone (take 16 (hosts_in zone (take i rs))) places → more ≡ hosts_in zone (get_or rs i no_record ∷ [])
    → n ≡ length (take 16 ((top_of q1).hosts ++ more)) → n ≡ length (take 16 (hosts_in zone (take (i + 1) rs)))
counts_more q q1 zone rs i n places more h e m f =
    let some : List Name = take 16 (hosts_in zone (take i rs)) in
    f ∙ ap (λ xs. length (take 16 (xs ++ more))) (zone_hosts q q1 zone some places e) ∙ ap length (hosts_more zone rs i more h m)

pub looks_all : (q q1 : Query) (zone : Name) (m : Message) (n : ℕ) (places : List (List ℕ)) → length m.records ≤ n
    → q1 ≡ with_zone q zone (take 16 (hosts_in zone (take n m.records))) places → q1 ≡ with_zone q zone (referred_hosts zone m) places
unfolding hosts_in authority_of
looks_all q q1 zone m n places h e = e ∙ ap (λ xs. with_zone q zone (take 16 (hosts_in zone xs)) places) (take_all n m.records h)

-- One server more

top_first : (fs : List Frame) → 0 < length fs → top fs ∷ below fs ≡ fs
unfolding top below
top_first [] h = absurd (omega arith)
top_first (f ∷ fs) h = refl

same_hosts : (q : Query) → 0 < length q.frames → with_hosts q (top_of q).hosts ≡ q
same_hosts q h = ap (λ (fs : List Frame). record q { frames = fs }) (top_first q.frames h)

take_full : (n : ℕ) (xs ys : List Name) → length xs ≡ n → take n (xs ++ ys) ≡ xs
take_full zero [] ys h = refl
take_full zero (x ∷ xs) ys h = absurd (omega arith)
take_full (suc n) [] ys h = absurd (omega arith)
take_full (suc n) (x ∷ xs) ys h = ap (λ zs. x ∷ zs) (take_full n xs ys (omega arith))

pub pushed_host : (q : Query) (name : Name) → length (top_of q).hosts < 16 → (top_of q).hosts ++ name ∷ [] ≡ take 16 ((top_of q).hosts ++ name ∷ [])
pushed_host q name h = sym (take_all 16 ((top_of q).hosts ++ name ∷ []) (omega (arith, length-append (top_of q).hosts (name ∷ []))))

pub full_hosts : (q : Query) (more : List Name) → length (top_of q).hosts ≡ 16 → take 16 ((top_of q).hosts ++ more) ≡ (top_of q).hosts
full_hosts q more h = take_full 16 (top_of q).hosts more h

pub no_host : (q : Query) → length (top_of q).hosts ≤ 16 → take 16 ((top_of q).hosts ++ []) ≡ (top_of q).hosts
no_host q h = ap (take 16) (append-nil (top_of q).hosts) ∙ take_all 16 (top_of q).hosts h

pub kept_hosts : (q : Query) (hosts : List Name) → 0 < length q.frames → hosts ≡ (top_of q).hosts → q ≡ with_hosts q hosts
kept_hosts q hosts h e = sym (ap (with_hosts q) e ∙ same_hosts q h)

-- One record

one_in : (zone : Name) (r : Record) → hosts_in zone (r ∷ []) ≡ cond (gives_host zone r) (host_of r.body ∷ []) []
unfolding hosts_in
one_in zone r = own (is_in r) (is_authority r.section) (r.kind == kind_ns && same r.owner zone) refl refl where
  a : Record → Bool
  a = λ (s : Record). is_authority s.section

  k : Record → Bool
  k = λ (s : Record). s.kind == kind_ns && same s.owner zone

  own : (x y z : Bool) → a r ≡ y → k r ≡ z → map (λ (s : Record). host_of s.body) (filter k (filter a (cond x (r ∷ []) []))) ≡ cond (x && (y && z)) (host_of r.body ∷ []) []
  own false y z e f = refl
  own true false z e f = rw e refl
  own true true false e f = rw (e, f) refl
  own true true true e f = rw (e, f) refl

pub gives_one : (zone : Name) (r : Record) → gives_host zone r ≡ true → host_of r.body ∷ [] ≡ hosts_in zone (r ∷ [])
gives_one zone r h = ap (λ b. cond b (host_of r.body ∷ []) []) (sym h) ∙ sym (one_in zone r)

pub gives_none : (zone : Name) (r : Record) → gives_host zone r ≡ false → [] ≡ hosts_in zone (r ∷ [])
gives_none zone r h = ap (λ b. cond b (host_of r.body ∷ []) []) (sym h) ∙ sym (one_in zone r)

pub ruleset finding = (gives_one, gives_none)

pub ruleset pushing = (pushed_host, full_hosts, no_host, kept_hosts)
