-- Reading records one after another.
use Rattle.std.proofs.Common.{◌≡◌, ℕ, suc, List, [], ◌∷◌, ◌++◌, map, refl, sym, ◌∙◌, ap, subst, append_assoc, Option, Some, None, option_map, option_and_then}
use Rattle.std.proofs.lemmas.List.{map-append, append-nil}
use Rattle.dc_model.specs.Message.{Section, answer, authority, additional, Record, record_at, RecordsRead, records_at, in_front, behind, QuestionRead, question_of, u16_at, message_of, message_with}
use Rattle.dc_packet.specs.declared.record.Rr.{Rr}
use Rattle.dc_packet.specs.Rows.{row_of}
use Rattle.dc_packet.specs.Filling.{IsFilled, IsWhole}

-- records that were read behind others
abbrev pub behind_others : List Record → RecordsRead → RecordsRead
behind_others done rs = record { records = done ++ rs.records; after = rs.after }

-- so many records of a section are still to be read from a place on, behind those that were read
pub record IsReading (p : List ℕ) (s : Section) (count start : ℕ) (before : List Rr) (left at : ℕ) (rows : List Rr) : Type 0 where
  pub done : List Record
  pub same : records_at count p s start ≡ option_map (behind_others done) (records_at left p s at)
  pub places : rows ≡ before ++ map row_of done

none_behind : (o : Option RecordsRead) → option_map (behind_others []) o ≡ o
none_behind None = refl
none_behind (Some rs) = refl

pub reading_start : (p : List ℕ) (s : Section) (count start : ℕ) (before : List Rr) → IsReading p s count start before count start before
reading_start p s count start before = record { done = []; same = sym (none_behind (records_at count p s start)); places = sym (append-nil before) }

one_behind : (done : List Record) (r : Record) (o : Option RecordsRead) → option_map (behind_others done) (option_map (in_front r) o) ≡ option_map (behind_others (done ++ (r ∷ []))) o
one_behind done r None = refl
one_behind done r (Some rs) = ap (λ (l : List Record). Some (record { records = l; after = rs.after })) (sym (append_assoc done (r ∷ []) rs.records))

-- a record more
pub reading_more : (p : List ℕ) (s : Section) (count start left at next : ℕ) (before rows new : List Rr) (r : Record) → IsReading p s count start before (suc left) at rows → record_at p s at ≡ Some r → next ≡ behind r → new ≡ rows ++ (row_of r ∷ [])
    → IsReading p s count start before left next new
reading_more p s count start left at next before rows new r h e n f = record {
  done = h.done ++ (r ∷ []);
  same = h.same ∙ ap (λ o. option_map (behind_others h.done) (option_and_then (λ r. option_map (in_front r) (records_at left p s (behind r))) o)) e
      ∙ one_behind h.done r (records_at left p s (behind r)) ∙ ap (λ a. option_map (behind_others (h.done ++ (r ∷ []))) (records_at left p s a)) (sym n);
  places = f ∙ ap (λ l. l ++ (row_of r ∷ [])) h.places ∙ append_assoc before (map row_of h.done) (row_of r ∷ []) ∙ ap (λ l. before ++ l) (sym (map-append row_of h.done (r ∷ [])));
}

-- a record that can't be read
pub reading_fails : (p : List ℕ) (s : Section) (count start left at : ℕ) (before rows : List Rr) → IsReading p s count start before (suc left) at rows → record_at p s at ≡ None → records_at count p s start ≡ None
reading_fails p s count start left at before rows h e =
    h.same ∙ ap (λ o. option_map (behind_others h.done) (option_and_then (λ r. option_map (in_front r) (records_at left p s (behind r))) o)) e

-- all records were read
pub reading_ends : (p : List ℕ) (s : Section) (count start at : ℕ) (before rows : List Rr) → IsReading p s count start before 0 at rows → IsFilled p s count start before at rows
reading_ends p s count start at before rows h = record {
  read = record { records = h.done ++ []; after = at };
  reads = h.same;
  ends = refl;
  places = h.places ∙ ap (λ l. before ++ map row_of l) (sym (append-nil h.done));
}

-- the first section stands behind no others
pub none_before : (p : List ℕ) (s : Section) (count at after : ℕ) (before rows : List Rr) → before ≡ [] → IsFilled p s count at before after rows → IsFilled p s count at [] after rows
none_before p s count at after before rows e h = subst (λ xs. IsFilled p s count at xs after rows) e h

-- the three sections of a message

pub rows_whole : (p : List ℕ) (q : QuestionRead) (na nb nc a b c : ℕ) (xs ys zs : List Rr) → question_of p ≡ Some q → na ≡ u16_at p 6 → nb ≡ u16_at p 8 → nc ≡ u16_at p 10
    → IsFilled p answer na q.after [] a xs → IsFilled p authority nb a xs b ys → IsFilled p additional nc b ys c zs → IsWhole p zs
unfolding message_of
rows_whole p q na nb nc a b c xs ys zs e f g h x y z =
    let an = ap (λ n. records_at n p answer q.after) (sym f) ∙ x.reads in
    let ns = ap (λ n. records_at n p authority x.read.after) (sym g) ∙ ap (λ n. records_at nb p authority n) (sym x.ends) ∙ y.reads in
    let ar = ap (λ n. records_at n p additional y.read.after) (sym h) ∙ ap (λ n. records_at nc p additional n) (sym y.ends) ∙ z.reads in
    record {
      message = message_with p q.question x.read y.read z.read;
      reads = rw (e, an, ns, ar) refl;
      flags = refl;
      places = z.places ∙ ap (λ l. l ++ map row_of z.read.records) (y.places ∙ ap (λ l. l ++ map row_of y.read.records) x.places)
          ∙ append_assoc (map row_of x.read.records) (map row_of y.read.records) (map row_of z.read.records)
          ∙ ap (λ l. map row_of x.read.records ++ l) (sym (map-append row_of y.read.records z.read.records))
          ∙ sym (map-append row_of x.read.records (y.read.records ++ z.read.records));
    }

pub no_question : (p : List ℕ) → question_of p ≡ None → message_of p ≡ None
unfolding message_of
no_question p e = rw e refl

pub no_answers : (p : List ℕ) (q : QuestionRead) (na : ℕ) → question_of p ≡ Some q → na ≡ u16_at p 6 → records_at na p answer q.after ≡ None → message_of p ≡ None
unfolding message_of
no_answers p q na e f x =
    let an = ap (λ n. records_at n p answer q.after) (sym f) ∙ x in
    rw (e, an) refl

pub no_authority : (p : List ℕ) (q : QuestionRead) (na nb a : ℕ) (xs : List Rr) → question_of p ≡ Some q → na ≡ u16_at p 6 → nb ≡ u16_at p 8 → IsFilled p answer na q.after [] a xs → records_at nb p authority a ≡ None → message_of p ≡ None
unfolding message_of
no_authority p q na nb a xs e f g x y =
    let an = ap (λ n. records_at n p answer q.after) (sym f) ∙ x.reads in
    let ns = ap (λ n. records_at n p authority x.read.after) (sym g) ∙ ap (λ n. records_at nb p authority n) (sym x.ends) ∙ y in
    rw (e, an, ns) refl

pub no_additional : (p : List ℕ) (q : QuestionRead) (na nb nc a b : ℕ) (xs ys : List Rr) → question_of p ≡ Some q → na ≡ u16_at p 6 → nb ≡ u16_at p 8 → nc ≡ u16_at p 10
    → IsFilled p answer na q.after [] a xs → IsFilled p authority nb a xs b ys → records_at nc p additional b ≡ None → message_of p ≡ None
unfolding message_of
no_additional p q na nb nc a b xs ys e f g h x y z =
    let an = ap (λ n. records_at n p answer q.after) (sym f) ∙ x.reads in
    let ns = ap (λ n. records_at n p authority x.read.after) (sym g) ∙ ap (λ n. records_at nb p authority n) (sym x.ends) ∙ y.reads in
    let ar = ap (λ n. records_at n p additional y.read.after) (sym h) ∙ ap (λ n. records_at nc p additional n) (sym y.ends) ∙ z in
    rw (e, an, ns, ar) refl
