-- The answers of the first records of a message.
use Rattle.std.proofs.Common.{◌≡◌, ℕ, ◌+◌, ◌<◌, ◌≤◌, Bool, true, false, ◌&&◌, cond, List, [], ◌∷◌, ◌++◌, length, take, drop, filter, map, refl, sym, ◌∙◌, ap, subst}
use Rattle.std.proofs.lemmas.List.{take_all, take_more, take-append-drop, map-append, append-nil}
use Rattle.std.proofs.lemmas.List.Elements.{filter-append}
use Rattle.dc_model.specs.Name.{Name, same}
use Rattle.dc_model.specs.Message.{Body, Record, Message, is_in, kept_ttl}
use Rattle.dc_model.specs.Marks.{is_wanted, is_answer, answers_of}
use Rattle.dc_model.specs.Reply.{Answer, Reply, with_answer, fits}
use Rattle.dc_reply.specs.Draft.{Draft, draft_of}
use Rattle.dc_machine.specs.Query.{Query, name_of, wanted_of}
use Rattle.dc_machine.specs.Turn.{answer_of, reply_of, heard_answers}
use Rattle.dc_marks.specs.Places.{no_record, record_in}
use Rattle.dc_answer.specs.Replies.{Replies}
use Rattle.dc_answer.specs.Heard.{is_told, told, first_heard}
use Rattle.dc_answer.proofs.Found.{owned, found_added, found_exceeds}

-- Lists of records

-- What records answer.
abbrev all_told : Query → List Record → List Answer
all_told q rs =
    map (λ (r : Record). answer_of q r.kind (kept_ttl r.ttl) r.body)
    (filter (λ (r : Record). is_wanted (wanted_of q) r.kind) (filter (λ (r : Record). is_answer r.section && same r.owner (name_of q)) (filter is_in rs)))

all_told-append : (q : Query) (rs ss : List Record) → all_told q (rs ++ ss) ≡ all_told q rs ++ all_told q ss
all_told-append q rs ss =
    let f : Record → Answer = λ r. answer_of q r.kind (kept_ttl r.ttl) r.body in
    let w : Record → Bool = λ r. is_wanted (wanted_of q) r.kind in
    let o : Record → Bool = λ r. is_answer r.section && same r.owner (name_of q) in
    ap (λ (xs : List Record). map f (filter w (filter o xs))) (filter-append is_in rs ss)
    ∙ ap (λ (xs : List Record). map f (filter w xs)) (filter-append o (filter is_in rs) (filter is_in ss))
    ∙ ap (map f) (filter-append w (filter o (filter is_in rs)) (filter o (filter is_in ss)))
    ∙ map-append f (filter w (filter o (filter is_in rs))) (filter w (filter o (filter is_in ss)))

-- One record, by four tests.
one_by : {X Y : Type 0} (f : X → Y) (p o w : X → Bool) (r : X) (a b c d : Bool) → p r ≡ a → o r ≡ (b && d) → w r ≡ c
    → map f (filter w (filter o (filter p (r ∷ [])))) ≡ cond (a && (b && (c && d))) (f r ∷ []) []
one_by f p o w r true true true true h k l = rw (h, k, l) refl
one_by f p o w r true true true false h k l = rw (h, k) refl
one_by f p o w r true true false true h k l = rw (h, k, l) refl
one_by f p o w r true true false false h k l = rw (h, k) refl
one_by f p o w r true false c d h k l = rw (h, k) refl
one_by f p o w r false b c d h k l = rw h refl

all_told-one : (q : Query) (r : Record) → all_told q (r ∷ []) ≡ told q r
all_told-one q r =
    one_by (λ (s : Record). answer_of q s.kind (kept_ttl s.ttl) s.body) is_in (λ (s : Record). is_answer s.section && same s.owner (name_of q)) (λ (s : Record). is_wanted (wanted_of q) s.kind) r
    (is_in r) (is_answer r.section) (is_wanted (wanted_of q) r.kind) (same r.owner (name_of q)) refl refl refl

-- The first records of a message

pub first_heard-none : (q : Query) (m : Message) → [] ≡ first_heard 0 q m
unfolding first_heard answers_of
first_heard-none q m = refl

pub first_heard-more : (q : Query) (m : Message) (i : ℕ) → i < length m.records → first_heard (i + 1) q m ≡ first_heard i q m ++ told q (record_in m i)
unfolding first_heard answers_of
first_heard-more q m i h =
    ap (all_told q) (take_more m.records i no_record h) ∙ all_told-append q (take i m.records) (record_in m i ∷ [])
    ∙ ap (λ (xs : List Answer). all_told q (take i m.records) ++ xs) (all_told-one q (record_in m i))

pub first_heard-all : (q : Query) (m : Message) (n : ℕ) → length m.records ≤ n → first_heard n q m ≡ heard_answers q m
unfolding first_heard answers_of
first_heard-all q m n h = ap (all_told q) (take_all n m.records h)

-- Where the answers of the first records don't fit, those of all don't.
pub first_heard-exceed : (q : Query) (m : Message) (n : ℕ) (old new : Draft) → Replies false old (reply_of q (first_heard n q m)) → Replies false new (reply_of q (heard_answers q m))
unfolding first_heard answers_of
first_heard-exceed q m n old new h =
    subst (λ (xs : List Answer). Replies false new (reply_of q xs))
    (sym (all_told-append q (take n m.records) (drop n m.records)) ∙ ap (all_told q) (take-append-drop n m.records))
    (found_exceeds q (all_told q (take n m.records)) (all_told q (drop n m.records)) old new h)

-- One record of which the client isn't told, and one of which it is.

skipped : (q : Query) (xs ys : List Answer) (b : Bool) (a : Answer) (d : Draft) → b ≡ false → ys ≡ xs ++ cond b (a ∷ []) [] → Replies true d (reply_of q xs) → Replies true d (reply_of q ys)
skipped q xs ys true a d h e r = absurd (cc)
skipped q xs ys false a d h e r = subst (λ (zs : List Answer). Replies true d (reply_of q zs)) (sym (append-nil xs) ∙ sym e) r

pub record_skipped : (q : Query) (m : Message) (i : ℕ) (told_of : Bool) (d : Draft) → i < length m.records → told_of ≡ is_told q (record_in m i) → told_of ≡ false
    → Replies true d (reply_of q (first_heard i q m)) → Replies true d (reply_of q (first_heard (i + 1) q m))
record_skipped q m i told_of d h e f before =
    let r : Record = record_in m i in
    skipped q (first_heard i q m) (first_heard (i + 1) q m) (is_told q r) (answer_of q r.kind (kept_ttl r.ttl) r.body) d (sym e ∙ f) (first_heard-more q m i h) before

added : (q : Query) (xs ys : List Answer) (b : Bool) (a : Answer) (made : Bool) (d : Draft) → b ≡ true → ys ≡ xs ++ cond b (a ∷ []) [] → Replies made d (reply_of q (xs ++ a ∷ [])) → Replies made d (reply_of q ys)
added q xs ys true a made d h e r = subst (λ (zs : List Answer). Replies made d (reply_of q zs)) (sym e) r
added q xs ys false a made d h e r = absurd (cc)

pub record_added : (q : Query) (m : Message) (i : ℕ) (told_of : Bool) (owner : Name) (kind ttl : ℕ) (body : Body) (made : Bool) (old new : Draft) → i < length m.records
    → told_of ≡ is_told q (record_in m i) → told_of ≡ true
    → owner ≡ name_of q → kind ≡ (record_in m i).kind → ttl ≡ kept_ttl (record_in m i).ttl → body ≡ (record_in m i).body
    → Replies true old (reply_of q (first_heard i q m))
    → ((r : Reply) → old ≡ draft_of r → made ≡ fits (with_answer (owned owner kind ttl body) r))
    → ((r : Reply) → old ≡ draft_of r → made ≡ true → new ≡ draft_of (with_answer (owned owner kind ttl body) r))
    → Replies made new (reply_of q (first_heard (i + 1) q m))
record_added q m i told_of owner kind ttl body made old new h e f own k t b before g j =
    let r : Record = record_in m i in
    let a : Answer = answer_of q r.kind (kept_ttl r.ttl) r.body in
    let same_answer : answer_of q kind ttl body ≡ a =
    ap (λ (n : ℕ). answer_of q n ttl body) k ∙ ap (λ (n : ℕ). answer_of q r.kind n body) t ∙ ap (λ (n : Body). answer_of q r.kind (kept_ttl r.ttl) n) b in
    added q (first_heard i q m) (first_heard (i + 1) q m) (is_told q r) a made new (sym e ∙ f) (first_heard-more q m i h)
    (subst (λ (x : Answer). Replies made new (reply_of q (first_heard i q m ++ x ∷ []))) same_answer
    (found_added q (first_heard i q m) owner kind ttl body made old new own before g j))
