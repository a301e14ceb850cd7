-- The classes of messages, and the records that they go by.
use Rattle.std.proofs.Common.{◌≡◌, ℕ, ◌<◌, Bool, true, false, ◌&&◌, ◌||◌, cond, ◌==◌, List, length, get_or, refl, sym, ◌∙◌, ap, Option, Some, None, option_map, slice_get, is_some}
use Rattle.std.proofs.lemmas.Option.{get_or_from_slice_get, slice_get_within}
use Rattle.dc_model.specs.Name.{Name}
use Rattle.dc_model.specs.Message.{Record, Message}
use Rattle.dc_model.specs.Marks as marks
use Rattle.dc_model.specs.Marks.{Marks, class_of, class_by_alias, class_by_referral, says_nothing, leads_nowhere, owner_of}
use Rattle.dc_marks.specs.Places.{no_record, record_in, IsNumberOf}
use Rattle.dc_marks.specs.Marked.{AreMarks}
use Rattle.dc_marks.specs.Classes.{class_named}
use Rattle.dc_marks.specs.declared.mark.Found.{Found}
use Rattle.dc_marks.specs.declared.«class».Class.TheVariants.{Lame, Alias, NxDomain, Answer, Referral}
use Rattle.dc_heard.specs.Said.{marks_found}

-- The marks that were found are those of their numbers

number_is : (rs : List Record) (i : Option ℕ) (r : Option Record) → IsNumberOf rs i r → r ≡ option_map (λ n. get_or rs n no_record) i
number_is rs None None h = refl
number_is rs None (Some r) h = absurd (cc)
number_is rs (Some n) None h = absurd (cc)
number_is rs (Some n) (Some r) h =
    let e : slice_get rs n ≡ Some r = cc in
    ap (λ (x : Record). Some x) (sym (get_or_from_slice_get rs n r no_record e))

pub number_within : (rs : List Record) (n : ℕ) (i : Option ℕ) (r : Option Record) → IsNumberOf rs i r → i ≡ Some n → n < length rs
number_within rs n None r h e = absurd (cc)
number_within rs n (Some k) None h e = absurd (cc)
number_within rs n (Some k) (Some r) h e =
    let own : slice_get rs n ≡ Some r = cc in
    slice_get_within rs n r own

pub found_is : (m : Message) (f : Found) (k : Marks) → AreMarks m f k → k ≡ marks_found m f
found_is m f k h =
    let a = number_is m.records f.alias k.alias h.alias in
    let s = number_is m.records f.soa k.soa h.soa in
    let r = number_is m.records f.referral k.referral h.referral in
    ap (λ (x : Bool). record k { out = x }) (sym h.out)
    ∙ ap (λ (x : Option Record). record { out = f.out; alias = x; soa = k.soa; referral = k.referral }) a
    ∙ ap (λ (x : Option Record). record { out = f.out; alias = option_map (record_in m) f.alias; soa = x; referral = k.referral }) s
    ∙ ap (λ (x : Option Record). record { out = f.out; alias = option_map (record_in m) f.alias; soa = option_map (record_in m) f.soa; referral = x }) r

-- Each class, with its record

not_lame : (alias : Option Record) (rc : ℕ) (k : Marks) → class_named (class_by_alias alias rc k) ≡ Lame → ⊥
not_lame (Some r) rc k h = absurd (cc)
not_lame None rc k h = own (rc == 3) (k.out || is_some k.soa) k.referral h where
  own : (b c : Bool) (referral : Option Record) → class_named (cond b marks.no_name (cond c marks.answers (class_by_referral referral))) ≡ Lame → ⊥
  own true c referral e = absurd (cc)
  own false true referral e = absurd (cc)
  own false false None e = absurd (cc)
  own false false (Some r) e = absurd (cc)

says_lame : (control : Name) (rc : ℕ) (k : Marks) → class_named (class_of control rc k) ≡ Lame → (r : Record) × (k.referral ≡ Some r) × (class_of control rc k ≡ marks.lame r.owner)
unfolding class_of
says_lame control rc k h = own (says_nothing rc k) k.referral (class_by_alias k.alias rc k) (not_lame k.alias rc k) h where
  inner : (l : Bool) (r : Record) (a : marks.Class) → (class_named a ≡ Lame → ⊥) → class_named (cond l (marks.lame r.owner) a) ≡ Lame → cond l (marks.lame r.owner) a ≡ marks.lame r.owner
  inner true r a n e = refl
  inner false r a n e = absurd (n e)

  own : (b : Bool) (referral : Option Record) (a : marks.Class) → (class_named a ≡ Lame → ⊥) → class_named (cond (b && leads_nowhere control referral) (marks.lame (owner_of referral)) a) ≡ Lame
      → (r : Record) × (referral ≡ Some r) × (cond (b && leads_nowhere control referral) (marks.lame (owner_of referral)) a ≡ marks.lame r.owner)
  own false referral a n e = absurd (n e)
  own true None a n e = absurd (n e)
  own true (Some r) a n e = (r, refl, inner (leads_nowhere control (Some r)) r a n e)

says_alias : (control : Name) (rc : ℕ) (k : Marks) → class_named (class_of control rc k) ≡ Alias → (r : Record) × (k.alias ≡ Some r) × (class_of control rc k ≡ marks.renames r)
unfolding class_of
says_alias control rc k h = own (says_nothing rc k && leads_nowhere control k.referral) (owner_of k.referral) k.alias h where
  none : (b c : Bool) (referral : Option Record) → class_named (cond b marks.no_name (cond c marks.answers (class_by_referral referral))) ≡ Alias → ⊥
  none true c referral e = absurd (cc)
  none false true referral e = absurd (cc)
  none false false None e = absurd (cc)
  none false false (Some r) e = absurd (cc)

  own : (l : Bool) (zone : Name) (alias : Option Record) → class_named (cond l (marks.lame zone) (class_by_alias alias rc k)) ≡ Alias
      → (r : Record) × (alias ≡ Some r) × (cond l (marks.lame zone) (class_by_alias alias rc k) ≡ marks.renames r)
  own true zone alias e = absurd (cc)
  own false zone (Some r) e = (r, refl, refl)
  own false zone None e = absurd (none (rc == 3) (k.out || is_some k.soa) k.referral e)

says_referral : (control : Name) (rc : ℕ) (k : Marks) → class_named (class_of control rc k) ≡ Referral → (r : Record) × (k.referral ≡ Some r) × (class_of control rc k ≡ marks.refers r.owner)
unfolding class_of
says_referral control rc k h = own (says_nothing rc k && leads_nowhere control k.referral) (owner_of k.referral) k.alias h where
  none : (b c : Bool) (referral : Option Record) → class_named (cond b marks.no_name (cond c marks.answers (class_by_referral referral))) ≡ Referral
      → (r : Record) × (referral ≡ Some r) × (cond b marks.no_name (cond c marks.answers (class_by_referral referral)) ≡ marks.refers r.owner)
  none true c referral e = absurd (cc)
  none false true referral e = absurd (cc)
  none false false None e = absurd (cc)
  none false false (Some r) e = (r, refl, refl)

  own : (l : Bool) (zone : Name) (alias : Option Record) → class_named (cond l (marks.lame zone) (class_by_alias alias rc k)) ≡ Referral
      → (r : Record) × (k.referral ≡ Some r) × (cond l (marks.lame zone) (class_by_alias alias rc k) ≡ marks.refers r.owner)
  own true zone alias e = absurd (cc)
  own false zone (Some r) e = absurd (cc)
  own false zone None e = none (rc == 3) (k.out || is_some k.soa) k.referral e

pub class_missing : (c : marks.Class) → class_named c ≡ NxDomain → marks.no_name ≡ c
class_missing (marks.lame zone) h = absurd (cc)
class_missing (marks.renames r) h = absurd (cc)
class_missing marks.no_name h = refl
class_missing marks.answers h = absurd (cc)
class_missing (marks.refers zone) h = absurd (cc)

pub class_answer : (c : marks.Class) → class_named c ≡ Answer → marks.answers ≡ c
class_answer (marks.lame zone) h = absurd (cc)
class_answer (marks.renames r) h = absurd (cc)
class_answer marks.no_name h = absurd (cc)
class_answer marks.answers h = refl
class_answer (marks.refers zone) h = absurd (cc)

-- The same by numbers

numbered : (m : Message) (i : Option ℕ) (r : Record) → option_map (record_in m) i ≡ Some r → (n : ℕ) × (i ≡ Some n) × (record_in m n ≡ r)
numbered m None r h = absurd (cc)
numbered m (Some n) r h = (n, refl, cc)

pub found_lame : (control : Name) (rc : ℕ) (m : Message) (f : Found) → class_named (class_of control rc (marks_found m f)) ≡ Lame
    → (n : ℕ) × (f.referral ≡ Some n) × (marks.lame (record_in m n).owner ≡ class_of control rc (marks_found m f))
found_lame control rc m f h =
    let s = says_lame control rc (marks_found m f) h in
    let n = numbered m f.referral s.0 s.1 in
    (n.0, n.1, ap (λ (r : Record). marks.lame r.owner) n.2 ∙ sym s.2)

pub found_alias : (control : Name) (rc : ℕ) (m : Message) (f : Found) → class_named (class_of control rc (marks_found m f)) ≡ Alias
    → (n : ℕ) × (f.alias ≡ Some n) × (marks.renames (record_in m n) ≡ class_of control rc (marks_found m f))
found_alias control rc m f h =
    let s = says_alias control rc (marks_found m f) h in
    let n = numbered m f.alias s.0 s.1 in
    (n.0, n.1, ap (λ (r : Record). marks.renames r) n.2 ∙ sym s.2)

pub found_referral : (control : Name) (rc : ℕ) (m : Message) (f : Found) → class_named (class_of control rc (marks_found m f)) ≡ Referral
    → (n : ℕ) × (f.referral ≡ Some n) × (marks.refers (record_in m n).owner ≡ class_of control rc (marks_found m f))
found_referral control rc m f h =
    let s = says_referral control rc (marks_found m f) h in
    let n = numbered m f.referral s.0 s.1 in
    (n.0, n.1, ap (λ (r : Record). marks.refers r.owner) n.2 ∙ sym s.2)

pub ruleset saying = (class_missing, class_answer)
