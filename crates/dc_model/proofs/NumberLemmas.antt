-- The numbers of what is read of bytes fit.
use Rattle.std.proofs.Common.{◌≡◌, ℕ, ◌+◌, ◌^◌, ◌<◌, ◌≤◌, zero, suc, ◌&&◌, ◌||◌, ◌==◌, List, ◌++◌, drop, subst, arith, Some, option_map, option_and_then, ⊎_elim}
use Rattle.std.specs.List.{AllByRecursion}
use Rattle.std.specs.Int.{w16, w32, from_be_bytes}
use Rattle.std.proofs.lemmas.List.{get_or-drop, get_or-take, get_or_past, length-take}
use Rattle.std.proofs.lemmas.Bool.{cases_lt}
use Rattle.dc_model.specs.Name.{name_at}
use Rattle.dc_model.specs.Message.{Body, bytes, host, mx, soa, AreBytes, HasNumbers, Form, form_bytes, form_host, form_mx, form_soa, body_at, host_body, mx_body, soa_behind, u16_at, u32_at, bytes_at, has_bytes, Section, answer, authority, additional, Record, IsNumbered, record_of, record_behind, record_at, behind, RecordsRead, records_at, in_front, QuestionRead, question_behind, question_at, question_of, Message, AllNumbered, message_with, message_behind, message_of, class_in, class_any, asks, Request, request_with, request_of}
use Rattle.dc_model.proofs.PartLemmas.{mapped}
use Rattle.dc_model.proofs.MessageLemmas.{bound, guarded, some_of, each-append}

-- bytes at a place of bytes
pub bytes_at-bytes : (p : List ℕ) (at n : ℕ) → AreBytes p → AreBytes (bytes_at p at n)
bytes_at-bytes p at n h i = ⊎_elim
    (λ (l : i < n). let e = get_or-take n (drop at p) i 0 in let f = get_or-drop at p i 0 in rw (e, f) (h (at + i)))
    (λ (l : n ≤ i). let t = length-take n (drop at p) in let e = get_or_past (bytes_at p at n) i 0 (omega (arith, t, l)) in rw e (omega arith))
    (cases_lt i n)

two_small : (bs : List ℕ) → AreBytes bs → from_be_bytes w16 bs < 2 ^ 16
two_small bs h = let a = h 0 in let b = h 1 in omega (arith, a, b)

four_small : (bs : List ℕ) → AreBytes bs → from_be_bytes w32 bs < 2 ^ 32
four_small bs h = let a = h 0 in let b = h 1 in let c = h 2 in let d = h 3 in omega (arith, a, b, c, d)

pub u16_at-small : (p : List ℕ) (at : ℕ) → AreBytes p → u16_at p at < 2 ^ 16
u16_at-small p at h = two_small (bytes_at p at 2) (bytes_at-bytes p at 2 h)

pub u32_at-small : (p : List ℕ) (at : ℕ) → AreBytes p → u32_at p at < 2 ^ 32
u32_at-small p at h = four_small (bytes_at p at 4) (bytes_at-bytes p at 4 h)

along : (a b : Body) → a ≡ b → HasNumbers a → HasNumbers b
along a b e h = subst (λ x. HasNumbers x) e h

body_at-numbers : (p : List ℕ) (f : Form) (at n : ℕ) (b : Body) → AreBytes p → body_at p f at n ≡ Some b → HasNumbers b
body_at-numbers p form_bytes at n b h e = along (bytes (bytes_at p at n)) b (some_of _ b e) (bytes_at-bytes p at n h)
body_at-numbers p form_host at n b h e =
    let m = mapped host_body (name_at p at) b e in
    along (host m.0.name) b m.2 tt
body_at-numbers p form_mx at n b h e =
    let g = guarded (has_bytes p at 2) _ b e in
    let m = mapped (mx_body (u16_at p at)) (name_at p (at + 2)) b g.1 in
    along (mx (u16_at p at) m.0.name) b m.2 (u16_at-small p at h)
body_at-numbers p form_soa at n b h e =
    let r = bound (λ r. option_and_then (soa_behind p r) (name_at p r.after)) (name_at p at) b e in
    let s = bound (soa_behind p r.0) (name_at p r.0.after) b r.2 in
    let g = guarded (has_bytes p s.0.after 20) _ b s.2 in
    along (soa r.0.name s.0.name (bytes_at p s.0.after 20)) b (some_of _ b g.1) (bytes_at-bytes p s.0.after 20 h)

record_at-numbered : (p : List ℕ) (s : Section) (at : ℕ) (r : Record) → AreBytes p → record_at p s at ≡ Some r → IsNumbered r
unfolding record_at
record_at-numbered p s at r h e =
    let n = bound (record_behind p s at) (name_at p at) r e in
    let g = guarded (has_bytes p n.0.after 10 && has_bytes p (n.0.after + 10) (u16_at p (n.0.after + 8))) _ r n.2 in
    let m = mapped (record_of p s at n.0) _ r g.1 in
    subst IsNumbered {x = record_of p s at n.0 m.0} m.2 (record {
      kind = u16_at-small p n.0.after h;
      class = u16_at-small p (n.0.after + 2) h;
      ttl = u32_at-small p (n.0.after + 4) h;
      len = u16_at-small p (n.0.after + 8) h;
      body = body_at-numbers p _ _ _ m.0 h m.1;
    })

records_at-numbered : (n : ℕ) (p : List ℕ) (s : Section) (at : ℕ) (rs : RecordsRead) → AreBytes p → records_at n p s at ≡ Some rs → AllByRecursion IsNumbered rs.records
records_at-numbered zero p s at rs h e = subst (λ (x : RecordsRead). AllByRecursion IsNumbered x.records) (some_of _ rs e) tt
records_at-numbered (suc n) p s at rs h e =
    let r = bound (λ r. option_map (in_front r) (records_at n p s (behind r))) (record_at p s at) rs e in
    let m = mapped (in_front r.0) (records_at n p s (behind r.0)) rs r.2 in
    subst (λ (x : RecordsRead). AllByRecursion IsNumbered x.records) {x = in_front r.0 m.0} m.2 (record_at-numbered p s at r.0 h r.1, records_at-numbered n p s (behind r.0) m.0 h m.1)

question_numbers : (p : List ℕ) (q : QuestionRead) → AreBytes p → question_of p ≡ Some q → (q.question.kind < 2 ^ 16) × (q.question.class < 2 ^ 16)
question_numbers p q h e =
    let g = guarded (has_bytes p 0 12 && u16_at p 4 == 1) (question_at p 12) q e in
    let b = bound (question_behind p) (name_at p 12) q g.1 in
    let c = guarded (has_bytes p b.0.after 4) _ q b.2 in
    subst (λ (x : QuestionRead). (x.question.kind < 2 ^ 16) × (x.question.class < 2 ^ 16)) (some_of _ q c.1) (u16_at-small p b.0.after h, u16_at-small p (b.0.after + 2) h)

-- the numbers of a message
pub message_of-numbered : (p : List ℕ) (m : Message) → AreBytes p → message_of p ≡ Some m → AllNumbered m
unfolding message_of
message_of-numbered p m h e =
    let q = bound (message_behind p) (question_of p) m e in
    let an = bound (λ an. option_and_then (λ ns. option_map (message_with p q.0.question an ns) (records_at (u16_at p 10) p additional ns.after)) (records_at (u16_at p 8) p authority an.after)) (records_at (u16_at p 6) p answer q.0.after) m q.2 in
    let ns = bound (λ ns. option_map (message_with p q.0.question an.0 ns) (records_at (u16_at p 10) p additional ns.after)) (records_at (u16_at p 8) p authority an.0.after) m an.2 in
    let ar = mapped (message_with p q.0.question an.0 ns.0) (records_at (u16_at p 10) p additional ns.0.after) m ns.2 in
    let k = question_numbers p q.0 h q.1 in
    subst AllNumbered {x = message_with p q.0.question an.0 ns.0 ar.0} ar.2 (record {
      id = u16_at-small p 0 h;
      flags = u16_at-small p 2 h;
      kind = k.0;
      class = k.1;
      records = each-append IsNumbered an.0.records (ns.0.records ++ ar.0.records) (records_at-numbered _ p answer _ an.0 h an.1)
          (each-append IsNumbered ns.0.records ar.0.records (records_at-numbered _ p authority _ ns.0 h ns.1) (records_at-numbered _ p additional _ ar.0 h ar.1));
    })

-- the numbers of a request
pub request_of-numbers : (p : List ℕ) (r : Request) → AreBytes p → request_of p ≡ Some r → (r.id < 2 ^ 16) × (r.kind < 2 ^ 16) × (r.class < 2 ^ 16)
unfolding request_of
request_of-numbers p r h e =
    let g = guarded (asks (u16_at p 2)) _ r e in
    let q = bound (request_with (u16_at p 0)) (question_of p) r g.1 in
    let c = guarded (q.0.question.class == class_in || q.0.question.class == class_any) _ r q.2 in
    let k = question_numbers p q.0 h q.1 in
    subst (λ (x : Request). (x.id < 2 ^ 16) × (x.kind < 2 ^ 16) × (x.class < 2 ^ 16)) (some_of _ r c.1) (u16_at-small p 0 h, k.0, k.1)
