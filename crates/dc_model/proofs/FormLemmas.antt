-- The data of what is read has the form of its type.
use Rattle.std.proofs.Common.{◌≡◌, ℕ, ◌+◌, ◌≤◌, zero, suc, ◌&&◌, List, ◌++◌, length, drop, subst, arith, Some, option_map, option_and_then}
use Rattle.std.specs.List.{AllByRecursion}
use Rattle.std.proofs.lemmas.List.{length-take, length-drop}
use Rattle.dc_model.specs.Name.{name_at}
use Rattle.dc_model.specs.Message.{Body, bytes, host, mx, soa, Form, form_bytes, form_host, form_mx, form_soa, form_of, body_at, host_body, mx_body, soa_behind, u16_at, bytes_at, has_bytes, IsFormed, IsWellFormed, Section, answer, authority, additional, Record, record_of, record_behind, record_at, behind, RecordsRead, records_at, in_front, question_of, Message, message_with, message_behind, message_of}
use Rattle.dc_model.proofs.ReadLemmas.{both}
use Rattle.dc_model.proofs.PartLemmas.{leb_least, mapped}
use Rattle.dc_model.proofs.MessageLemmas.{bound, guarded, some_of, each-append}

along : (f : Form) (n : ℕ) (a b : Body) → a ≡ b → IsFormed f n a → IsFormed f n b
along f n a b e h = subst (λ x. IsFormed f n x) e h

body_at-formed : (p : List ℕ) (f : Form) (at n : ℕ) (b : Body) → at + n ≤ length p → body_at p f at n ≡ Some b → IsFormed f n b
body_at-formed p form_bytes at n b l e =
    let a = length-take n (drop at p) in
    let d = length-drop at p in
    along form_bytes n (bytes (bytes_at p at n)) b (some_of _ b e) (omega (arith, a, d, l))
body_at-formed p form_host at n b l e =
    let m = mapped host_body (name_at p at) b e in
    along form_host n (host m.0.name) b m.2 tt
body_at-formed p form_mx at n b l e =
    let g = guarded (has_bytes p at 2) _ b e in
    let m = mapped (mx_body (u16_at p at)) (name_at p (at + 2)) b g.1 in
    along form_mx n (mx (u16_at p at) m.0.name) b m.2 tt
body_at-formed p form_soa at n b l e =
    let r = bound (λ r. option_and_then (soa_behind p r) (name_at p r.after)) (name_at p at) b e in
    let s = bound (soa_behind p r.0) (name_at p r.0.after) b r.2 in
    let g = guarded (has_bytes p s.0.after 20) _ b s.2 in
    along form_soa n (soa r.0.name s.0.name (bytes_at p s.0.after 20)) b (some_of _ b g.1) tt

record_at-formed : (p : List ℕ) (s : Section) (at : ℕ) (r : Record) → record_at p s at ≡ Some r → IsWellFormed r
unfolding record_at
record_at-formed p s at r e =
    let n = bound (record_behind p s at) (name_at p at) r e in
    let g = guarded (has_bytes p n.0.after 10 && has_bytes p (n.0.after + 10) (u16_at p (n.0.after + 8))) _ r n.2 in
    let m = mapped (record_of p s at n.0) _ r g.1 in
    let room = leb_least (n.0.after + 10 + u16_at p (n.0.after + 8)) (length p) (both (has_bytes p n.0.after 10) _ g.0).1 in
    subst (λ (x : Record). IsWellFormed x) {x = record_of p s at n.0 m.0} m.2
    (body_at-formed p (form_of (u16_at p n.0.after) (u16_at p (n.0.after + 2))) (n.0.after + 10) (u16_at p (n.0.after + 8)) m.0 room m.1)

records_at-formed : (n : ℕ) (p : List ℕ) (s : Section) (at : ℕ) (rs : RecordsRead) → records_at n p s at ≡ Some rs → AllByRecursion (λ r. IsWellFormed r) rs.records
records_at-formed zero p s at rs e = subst (λ (x : RecordsRead). AllByRecursion (λ r. IsWellFormed r) x.records) (some_of _ rs e) tt
records_at-formed (suc n) p s at rs e =
    let r = bound (λ r. option_map (in_front r) (records_at n p s (behind r))) (record_at p s at) rs e in
    let m = mapped (in_front r.0) (records_at n p s (behind r.0)) rs r.2 in
    subst (λ (x : RecordsRead). AllByRecursion (λ r. IsWellFormed r) x.records) {x = in_front r.0 m.0} m.2 (record_at-formed p s at r.0 r.1, records_at-formed n p s (behind r.0) m.0 m.1)

-- the data of a message
pub message_of-formed : (p : List ℕ) (m : Message) → message_of p ≡ Some m → AllByRecursion (λ r. IsWellFormed r) m.records
unfolding message_of
message_of-formed p m e =
    let q = bound (message_behind p) (question_of p) m e in
    let an = bound (λ an. option_and_then (λ ns. option_map (message_with p q.0.question an ns) (records_at (u16_at p 10) p additional ns.after)) (records_at (u16_at p 8) p authority an.after)) (records_at (u16_at p 6) p answer q.0.after) m q.2 in
    let ns = bound (λ ns. option_map (message_with p q.0.question an.0 ns) (records_at (u16_at p 10) p additional ns.after)) (records_at (u16_at p 8) p authority an.0.after) m an.2 in
    let ar = mapped (message_with p q.0.question an.0 ns.0) (records_at (u16_at p 10) p additional ns.0.after) m ns.2 in
    subst (λ (x : Message). AllByRecursion (λ r. IsWellFormed r) x.records) {x = message_with p q.0.question an.0 ns.0 ar.0} ar.2
    (each-append (λ r. IsWellFormed r) an.0.records (ns.0.records ++ ar.0.records) (records_at-formed _ p answer _ an.0 an.1)
    (each-append (λ r. IsWellFormed r) ns.0.records ar.0.records (records_at-formed _ p authority _ ns.0 ns.1) (records_at-formed _ p additional _ ar.0 ar.1)))
