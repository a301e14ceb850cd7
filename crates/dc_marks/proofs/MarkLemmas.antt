-- The marks of the first records of a message, record by record.
use Rattle.std.proofs.Common.{◌≡◌, ℕ, ◌+◌, ◌<◌, Bool, true, false, not, ◌&&◌, ◌||◌, cond, ◌==◌, List, [], ◌∷◌, ◌++◌, length, take, refl, sym, ◌∙◌, ap, subst, Option, Some, None, option_map, slice_get, filter, is_none, ◌≤◌}
use Rattle.std.specs.List.{list_any}
use Rattle.std.proofs.lemmas.List.{take_more, take_all}
use Rattle.std.proofs.lemmas.List.Elements.{filter-append}
use Rattle.std.proofs.lemmas.List.Folds.{list_any-append}
use Rattle.std.proofs.lemmas.Option.{slice_get-get_or}
use Rattle.dc_model.specs.Name.{Name, same}
use Rattle.dc_model.specs.Message.{kind_ns, kind_cname, kind_soa, Record, Message, message_of, is_in}
use Rattle.dc_model.specs.Marks.{Marks, is_wanted, is_answer, is_authority, answers_of, authority_of, last_or, last_of, marks_of}
use Rattle.dc_packet.specs.Rows.{message_in}
use Rattle.dc_marks.specs.declared.mark.Found.{Found}
use Rattle.dc_marks.specs.Places.{no_record, record_in, IsNumberOf}
use Rattle.dc_marks.specs.Marked.{AreMarks, answers, has_authority, found_more}

-- a message with its first records alone
abbrev pub first : ℕ → Message → Message
first i m = record m { records = take i m.records }

two : {X : Type 0} (p q : X → Bool) (r : X) → filter q (filter p (r ∷ [])) ≡ cond (p r && q r) (r ∷ []) []
two p q r = own (p r) (q r) refl where
  own : (a b : Bool) → q r ≡ b → filter q (cond a (r ∷ []) []) ≡ cond (a && b) (r ∷ []) []
  own true b e = rw e refl
  own false b e = refl

kept_one : {X : Type 0} (q : X → Bool) (a : Bool) (r : X) → filter q (cond a (r ∷ []) []) ≡ cond (a && q r) (r ∷ []) []
kept_one q true r = refl
kept_one q false r = refl

kept_more : {X : Type 0} (p q : X → Bool) (xs : List X) (r : X) → filter q (filter p (xs ++ r ∷ [])) ≡ filter q (filter p xs) ++ cond (p r && q r) (r ∷ []) []
kept_more p q xs r = ap (filter q) (filter-append p xs (r ∷ [])) ∙ filter-append q (filter p xs) (filter p (r ∷ [])) ∙ ap (λ ys. filter q (filter p xs) ++ ys) (two p q r)

any_one : {X : Type 0} (w : X → Bool) (a : Bool) (r : X) → list_any w (cond a (r ∷ []) []) ≡ (a && w r)
any_one w true r = own (w r) where
  own : (b : Bool) → (b || false) ≡ b
  own true = refl
  own false = refl
any_one w false r = refl

any_more : {X : Type 0} (p q w : X → Bool) (xs : List X) (r : X) → list_any w (filter q (filter p (xs ++ r ∷ []))) ≡ (list_any w (filter q (filter p xs)) || ((p r && q r) && w r))
any_more p q w xs r = ap (list_any w) (kept_more p q xs r) ∙ list_any-append w (filter q (filter p xs)) (cond (p r && q r) (r ∷ []) []) ∙ ap (λ b. list_any w (filter q (filter p xs)) || b) (any_one w (p r && q r) r)

last_one : (o : Option Record) (xs : List Record) (a : Bool) (r : Record) → last_or o (xs ++ cond a (r ∷ []) []) ≡ cond a (Some r) (last_or o xs)
last_one o [] true r = refl
last_one o [] false r = refl
last_one o (x ∷ xs) a r = last_one (Some x) xs a r

last_more : (kind : ℕ) (p q : Record → Bool) (xs : List Record) (r : Record) → last_of kind (filter q (filter p (xs ++ r ∷ []))) ≡ cond ((p r && q r) && r.kind == kind) (Some r) (last_of kind (filter q (filter p xs)))
last_more kind p q xs r =
    let k : Record → Bool = λ (s : Record). s.kind == kind in
    ap (λ ys. last_or None (filter k ys)) (kept_more p q xs r)
    ∙ ap (last_or None) (filter-append k (filter q (filter p xs)) (cond (p r && q r) (r ∷ []) []))
    ∙ ap (λ ys. last_or None (filter k (filter q (filter p xs)) ++ ys)) (kept_one k (p r && q r) r)
    ∙ last_one None (filter k (filter q (filter p xs))) ((p r && q r) && k r) r

number_more : (rs : List Record) (i : ℕ) (a : Bool) (r : Record) (f : Option ℕ) (k : Option Record) → slice_get rs i ≡ Some r → IsNumberOf rs f k → IsNumberOf rs (cond a (Some i) f) (cond a (Some r) k)
number_more rs i true r f k e h = ap (λ x. Some x) e
number_more rs i false r f k e h = h

and_right : (a b c : Bool) → ((a && b) && c) ≡ (a && (b && c))
and_right true b c = refl
and_right false b c = refl

-- the alias counts where CNAME isn't wanted
alias_more : (rs : List Record) (i : ℕ) (w a c : Bool) (r : Record) (f : Option ℕ) (k : Option Record) → slice_get rs i ≡ Some r → IsNumberOf rs f (cond w None k) → IsNumberOf rs (cond (a && (c && not w)) (Some i) f) (cond w None (cond (a && c) (Some r) k))
alias_more rs i true true true r f k e h = h
alias_more rs i true true false r f k e h = h
alias_more rs i true false c r f k e h = h
alias_more rs i false true true r f k e h = ap (λ x. Some x) e
alias_more rs i false true false r f k e h = h
alias_more rs i false false c r f k e h = h

step : (m : Message) (xs : List Record) (f : Found) (name : Name) (wanted i : ℕ) (r : Record) → slice_get m.records i ≡ Some r →
    AreMarks m f (marks_of name wanted (record m { records = xs })) → AreMarks m (found_more name wanted i r f) (marks_of name wanted (record m { records = xs ++ r ∷ [] }))
unfolding marks_of answers_of authority_of
step m xs f name wanted i r here h =
    let own : Record → Bool = λ (s : Record). is_answer s.section && same s.owner name in
    let auth : Record → Bool = λ (s : Record). is_authority s.section in
    record {
      out = ap (λ b. b || (answers name r && is_wanted wanted r.kind)) h.out ∙ sym (any_more is_in own (λ (s : Record). is_wanted wanted s.kind) xs r);
      alias = subst (λ o. IsNumberOf m.records (found_more name wanted i r f).alias (cond (is_wanted wanted kind_cname) None o)) (sym (last_more kind_cname is_in own xs r))
          (alias_more m.records i (is_wanted wanted kind_cname) (answers name r) (r.kind == kind_cname) r f.alias (last_of kind_cname (filter own (filter is_in xs))) here h.alias);
      soa = subst (IsNumberOf m.records (found_more name wanted i r f).soa) (sym (last_more kind_soa is_in auth xs r))
          (number_more m.records i (has_authority r && r.kind == kind_soa) r f.soa (last_of kind_soa (filter auth (filter is_in xs))) here h.soa);
      referral = subst (IsNumberOf m.records (found_more name wanted i r f).referral) (sym (last_more kind_ns is_in auth xs r))
          (number_more m.records i (has_authority r && r.kind == kind_ns) r f.referral (last_of kind_ns (filter auth (filter is_in xs))) here h.referral);
    }

pub marks_more : (m : Message) (f : Found) (name : Name) (wanted i : ℕ) → i < length m.records → AreMarks m f (marks_of name wanted (first i m)) → AreMarks m (found_more name wanted i (record_in m i) f) (marks_of name wanted (first (i + 1) m))
marks_more m f name wanted i h k =
    subst (λ (xs : List Record). AreMarks m (found_more name wanted i (record_in m i) f) (marks_of name wanted (record m { records = xs }))) (sym (take_more m.records i no_record h))
    (step m (take i m.records) f name wanted i (record_in m i) (slice_get-get_or m.records i no_record h) k)

pub marks_none : (m : Message) (name : Name) (wanted : ℕ) → AreMarks m (record { out = false; alias = None; soa = None; referral = None }) (marks_of name wanted (first 0 m))
unfolding marks_of answers_of authority_of
marks_none m name wanted = record { out = refl; alias = own (is_wanted wanted kind_cname); soa = refl; referral = refl } where
  own : (b : Bool) → option_map (slice_get m.records) None ≡ option_map (λ (x : Record). Some x) (cond b None None)
  own true = refl
  own false = refl

pub marks_all : (m : Message) (f : Found) (name : Name) (wanted n : ℕ) → length m.records ≤ n → AreMarks m f (marks_of name wanted (first n m)) → AreMarks m f (marks_of name wanted m)
marks_all m f name wanted n h k = subst (λ (xs : List Record). AreMarks m f (marks_of name wanted (record m { records = xs }))) (take_all n m.records h) k

pub ruleset marking = (marks_more, marks_none, marks_all)

-- what is none
none_is : (rs : List Record) (i : Option ℕ) (r : Option Record) → IsNumberOf rs i r → is_none r ≡ is_none i
none_is rs None None h = refl
none_is rs None (Some r) h = absurd (cc)
none_is rs (Some i) None h = absurd (cc)
none_is rs (Some i) (Some r) h = refl

pub alias-none : (m : Message) (f : Found) (k : Marks) → AreMarks m f k → is_none k.alias ≡ is_none f.alias
alias-none m f k h = none_is m.records f.alias k.alias h.alias

pub soa-none : (m : Message) (f : Found) (k : Marks) → AreMarks m f k → is_none k.soa ≡ is_none f.soa
soa-none m f k h = none_is m.records f.soa k.soa h.soa

pub referral-none : (m : Message) (f : Found) (k : Marks) → AreMarks m f k → is_none k.referral ≡ is_none f.referral
referral-none m f k h = none_is m.records f.referral k.referral h.referral

-- the message of a packet
pub message_in-is : (p : List ℕ) (m : Message) → message_of p ≡ Some m → m ≡ message_in p
unfolding message_in
message_in-is p m e = rw e refl
