-- The records of a message, read again where they stand.
use Rattle.std.proofs.Common.{◌≡◌, ℕ, ◌+◌, ◌≤◌, zero, suc, List, [], ◌∷◌, ◌++◌, length, map, refl, sym, ◌∙◌, ap, subst, arith, ◌&&◌, Some, None, option_map, option_and_then, slice_get}
use Rattle.std.specs.List.{AllByRecursion}
use Rattle.dc_model.specs.Name.{Name, NameRead, name_at}
use Rattle.dc_model.specs.Message.{Section, answer, authority, additional, Body, Record, record_of, record_behind, record_at, RecordsRead, records_at, in_front, behind, question_of, Message, message_with, message_behind, message_of, body_at, form_of, u16_at, has_bytes, IsRecord}
use Rattle.dc_model.proofs.PartLemmas.{mapped}
use Rattle.dc_model.proofs.MessageLemmas.{bound, guarded, some_of, each-append, message_of-IsMessage}
use Rattle.dc_packet.specs.declared.record.Rr.{Rr}
use Rattle.dc_packet.specs.Rows.{Rows, row_of, rows_of, owner_of, data_of, AreRowsOf, message_in}
use Rattle.dc_packet.specs.Reading.{IsNameAt}
use Rattle.std.proofs.lemmas.List.{length-map}

-- what stands where a record stands
pub record IsHere (p : List ℕ) (r : Record) : Type 0 where
  pub name : NameRead
  pub reads : name_at p r.owner_at ≡ Some name
  pub owner : name.name ≡ r.owner
  pub body : body_at p (form_of r.kind r.class) r.at r.len ≡ Some r.body

record_here : (p : List ℕ) (s : Section) (at : ℕ) (r : Record) → record_at p s at ≡ Some r → IsHere p r
unfolding record_at
record_here p s at r e =
    let n = bound (record_behind p s at) (name_at p at) r e in
    let g = guarded (has_bytes p n.0.after 10 && has_bytes p (n.0.after + 10) (u16_at p (n.0.after + 8))) _ r n.2 in
    let m = mapped (record_of p s at n.0) _ r g.1 in
    subst (λ x. IsHere p x) {x = record_of p s at n.0 m.0} m.2 (record { name = n.0; reads = n.1; owner = refl; body = m.1 })

records_here : (n : ℕ) (p : List ℕ) (s : Section) (at : ℕ) (rs : RecordsRead) → records_at n p s at ≡ Some rs → AllByRecursion (IsHere p) rs.records
records_here zero p s at rs e = subst (λ (x : RecordsRead). AllByRecursion (IsHere p) x.records) (some_of _ rs e) tt
records_here (suc n) p s at rs e =
    let r = bound (λ r. option_map (in_front r) (records_at n p s (behind r))) (record_at p s at) rs e in
    let m = mapped (in_front r.0) (records_at n p s (behind r.0)) rs r.2 in
    subst (λ (x : RecordsRead). AllByRecursion (IsHere p) x.records) {x = in_front r.0 m.0} m.2 (record_here p s at r.0 r.1, records_here n p s (behind r.0) m.0 m.1)

message_here : (p : List ℕ) (m : Message) → message_of p ≡ Some m → AllByRecursion (IsHere p) m.records
unfolding message_of
message_here p m e =
    let q = bound (message_behind p) (question_of p) m e in
    let an = bound (λ an. option_and_then (λ ns. option_map (message_with p q.0.question an ns) (records_at (u16_at p 10) p additional ns.after)) (records_at (u16_at p 8) p authority an.after)) (records_at (u16_at p 6) p answer q.0.after) m q.2 in
    let ns = bound (λ ns. option_map (message_with p q.0.question an.0 ns) (records_at (u16_at p 10) p additional ns.after)) (records_at (u16_at p 8) p authority an.0.after) m an.2 in
    let ar = mapped (message_with p q.0.question an.0 ns.0) (records_at (u16_at p 10) p additional ns.0.after) m ns.2 in
    subst (λ (x : Message). AllByRecursion (IsHere p) x.records) {x = message_with p q.0.question an.0 ns.0 ar.0} ar.2
    (each-append (IsHere p) an.0.records (ns.0.records ++ ar.0.records) (records_here _ p answer _ an.0 an.1)
    (each-append (IsHere p) ns.0.records ar.0.records (records_here _ p authority _ ns.0 ns.1) (records_here _ p additional _ ar.0 ar.1)))

-- a record by its number
at_place : {X : Type 0} (P : X → Type 0) (xs : List X) (i : ℕ) (x : X) → AllByRecursion P xs → slice_get xs i ≡ Some x → P x
at_place P [] i x h e = absurd (cc)
at_place P (y ∷ ys) zero x h e = subst P (some_of y x e) h.0
at_place P (y ∷ ys) (suc i) x h e = at_place P ys i x h.1 e

-- the record whose row stands at a number
pub record IsRecordAt (p : List ℕ) (m : Message) (i : ℕ) (row : Rr) : Type 0 where
  pub is : Record
  pub at : slice_get m.records i ≡ Some is
  pub places : row ≡ row_of is
  pub here : IsHere p is
  pub within : IsRecord p is

slice_get-map : {X Y : Type 0} (f : X → Y) (xs : List X) (i : ℕ) → slice_get (map f xs) i ≡ option_map f (slice_get xs i)
slice_get-map f [] i = refl
slice_get-map f (x ∷ xs) zero = refl
slice_get-map f (x ∷ xs) (suc i) = slice_get-map f xs i

pub record_is_at : (p : List ℕ) (m : Message) (i : ℕ) (row : Rr) → message_of p ≡ Some m → slice_get (map row_of m.records) i ≡ Some row → IsRecordAt p m i row
record_is_at p m i row e f =
    let r = mapped row_of (slice_get m.records i) row (sym (slice_get-map row_of m.records i) ∙ f) in
    record {
      is = r.0;
      at = r.1;
      places = sym r.2;
      here = at_place (IsHere p) m.records i r.0 (message_here p m e) r.1;
      within = at_place (IsRecord p) m.records i r.0 (message_of-IsMessage p m e).records r.1;
    }

-- what rows of a packet are of
message_in-is : (p : List ℕ) (m : Message) → message_of p ≡ Some m → message_in p ≡ m
unfolding message_in
message_in-is p m e = rw e refl

pub rows_said : (p : List ℕ) (t : Rows) → AreRowsOf p t → message_of p ≡ Some (message_in p)
rows_said p t h = h.reads ∙ ap (λ m. Some m) (sym (message_in-is p h.message h.reads))

pub rows_are : (p : List ℕ) (t : Rows) (m : Message) → AreRowsOf p t → message_in p ≡ m → (message_of p ≡ Some m) × (t ≡ rows_of m)
rows_are p t m h e =
    let is : h.message ≡ m = sym (message_in-is p h.message h.reads) ∙ e in
    (h.reads ∙ ap (λ x. Some x) is, h.rows ∙ ap rows_of is)

pub rows_length : (p : List ℕ) (t : Rows) (m : Message) → AreRowsOf p t → message_in p ≡ m → length t.rows ≡ length m.records
rows_length p t m h e = ap (λ (t : Rows). length t.rows) (rows_are p t m h e).1 ∙ length-map m.records row_of

pub row_is : (p : List ℕ) (t : Rows) (m : Message) (i : ℕ) (row : Rr) → AreRowsOf p t → message_in p ≡ m → slice_get t.rows i ≡ Some row → IsRecordAt p m i row
row_is p t m i row h e f =
    let r = rows_are p t m h e in
    record_is_at p m i row r.0 (ap (λ (t : Rows). slice_get t.rows i) (sym r.1) ∙ f)

-- what is read of the record at a number

pub row_here : (p : List ℕ) (m : Message) (i : ℕ) (row : Rr) → IsRecordAt p m i row → option_map row_of (slice_get m.records i) ≡ Some row
row_here p m i row h = ap (option_map row_of) h.at ∙ ap (λ r. Some r) (sym h.places)

owner_place : (p : List ℕ) (m : Message) (i : ℕ) (row : Rr) → (h : IsRecordAt p m i row) → name_at p row.owner ≡ Some h.here.name
owner_place p m i row h = ap (λ (r : Rr). name_at p r.owner) h.places ∙ h.here.reads

pub owner_here : (p : List ℕ) (m : Message) (i : ℕ) (row : Rr) (n : Name) (after : ℕ) → IsRecordAt p m i row → IsNameAt p row.owner n after → option_map owner_of (slice_get m.records i) ≡ Some n
owner_here p m i row n after h k =
    let same : h.here.name.name ≡ n = ap (λ (r : NameRead). r.name) (some_of _ _ (sym (owner_place p m i row h) ∙ k.reads)) in
    ap (option_map owner_of) h.at ∙ ap (λ x. Some x) (sym h.here.owner ∙ same)

pub owner_reads : (p : List ℕ) (m : Message) (i : ℕ) (row : Rr) → IsRecordAt p m i row → name_at p row.owner ≡ None → ⊥
owner_reads p m i row h e = let f = owner_place p m i row h in cc

data_place : (p : List ℕ) (m : Message) (i : ℕ) (row : Rr) → (h : IsRecordAt p m i row) → body_at p (form_of row.kind row.class) row.at row.len ≡ Some h.is.body
data_place p m i row h = ap (λ (r : Rr). body_at p (form_of r.kind r.class) r.at r.len) h.places ∙ h.here.body

pub data_here : (p : List ℕ) (m : Message) (i : ℕ) (row : Rr) (b : Body) → IsRecordAt p m i row → Some b ≡ body_at p (form_of row.kind row.class) row.at row.len → option_map data_of (slice_get m.records i) ≡ Some b
data_here p m i row b h e = ap (option_map data_of) h.at ∙ sym (e ∙ data_place p m i row h)

pub data_reads : (p : List ℕ) (m : Message) (i : ℕ) (row : Rr) → IsRecordAt p m i row → None ≡ body_at p (form_of row.kind row.class) row.at row.len → ⊥
data_reads p m i row h e = let f = data_place p m i row h in cc

pub data_within : (p : List ℕ) (m : Message) (i : ℕ) (row : Rr) → IsRecordAt p m i row → row.at + row.len ≤ length p
data_within p m i row h =
    let e : row.at + row.len ≡ behind h.is = ap (λ (r : Rr). r.at + r.len) h.places in
    omega (arith, e, h.within.within)
