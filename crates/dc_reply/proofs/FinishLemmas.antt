-- Replies that are finished.
use Rattle.std.proofs.Common.{◌≡◌, ℕ, ◌+◌, ◌-◌, ◌<◌, ◌≤◌, false, nat_le, List, [], ◌++◌, length, take, drop, refl, sym, subst, ◌∙◌, ap, arith, Some}
use Rattle.std.proofs.lemmas.Grind.{common_steps}
use Rattle.std.proofs.lemmas.List.{length-append, length-take, length-drop, take_all}
use Rattle.std.proofs.Math.Seq.{take-append_seam, take-append-add}
use Rattle.dc_model.specs.Message.{u16, message_of}
use Rattle.dc_model.specs.Reply.{Written, Reply, header, question_written, answers_written, reply_bytes, truncated_bytes, udp_bytes, tcp_bytes}
use Rattle.dc_model.specs.ReadBack.{IsReply}
use Rattle.dc_model.proofs.NameLemmas.{leb_yes}
use Rattle.dc_model.proofs.ReplyLemmas.{reply_reads, truncated_reads}
use Rattle.dc_reply.specs.Pages.{Page}
use Rattle.dc_reply.specs.Draft.{Draft, draft_of, IsMessageOf}
use Rattle.dc_reply.proofs.DraftLemmas.{reply_bytes-is, draft-flags_are}

-- A frame and a header, written in front.
pub framed-is : (whole front : List ℕ) (page : Page) (w : Written) (n id flags count : ℕ) → page ≡ record { front = front; written = w }
    → front ≡ u16 n ++ header id flags count → whole ≡ page.front ++ page.written.bytes → whole ≡ (u16 n ++ header id flags count) ++ w.bytes
framed-is whole front page w n id flags count e f g =
    g ∙ ap (λ (p : Page). p.front ++ p.written.bytes) e ∙ ap (λ (bs : List ℕ). bs ++ w.bytes) f

pub length-reply_bytes : (r : Reply) (d : Draft) → d ≡ draft_of r → length (reply_bytes r) ≡ 12 + length d.written.bytes
length-reply_bytes r d e = ap length (reply_bytes-is r d e) ∙ length-append (header d.id d.flags d.count) d.written.bytes

-- In a stream

pub tcp-is : (r : Reply) (d : Draft) (whole : List ℕ) (n : ℕ) → d ≡ draft_of r → n ≡ 12 + length d.written.bytes
    → whole ≡ (u16 n ++ header d.id d.flags d.count) ++ d.written.bytes → whole ≡ tcp_bytes r
unfolding tcp_bytes
tcp-is r d whole n e f g =
    let message : List ℕ = header d.id d.flags d.count ++ d.written.bytes in
    let bytes = reply_bytes-is r d e in
    g ∙ ap (λ (k : ℕ). u16 k ++ message) (f ∙ sym (length-reply_bytes r d e)) ∙ ap (λ (bs : List ℕ). u16 (length (reply_bytes r)) ++ bs) (sym bytes)

pub message-is : (r : Reply) (d : Draft) (whole : List ℕ) (n : ℕ) → d ≡ draft_of r → whole ≡ (u16 n ++ header d.id d.flags d.count) ++ d.written.bytes
    → drop 2 whole ≡ reply_bytes r
message-is r d whole n e g = ap (λ (bs : List ℕ). drop 2 bs) g ∙ sym (reply_bytes-is r d e)

pub reads : (r : Reply) (bytes : List ℕ) → bytes ≡ reply_bytes r → IsReply r → IsMessageOf r bytes
reads r bytes e h = subst (λ (bs : List ℕ). IsMessageOf r bs) (sym e) (reply_reads r h)

-- Datagrams

udp-fits : (r : Reply) → length (reply_bytes r) ≤ 512 → udp_bytes r ≡ reply_bytes r
unfolding udp_bytes
udp-fits r h = rw (leb_yes (length (reply_bytes r)) 512 h) refl

leb_no : (a b : ℕ) → b < a → nat_le a b ≡ false
leb_no a b h = grind (arith, common_steps)

udp-cuts : (r : Reply) → 512 < length (reply_bytes r) → udp_bytes r ≡ truncated_bytes r
unfolding udp_bytes
udp-cuts r h = rw (leb_no (length (reply_bytes r)) 512 h) refl

-- The message behind its frame.
pub behind-frame : (whole : List ℕ) → take (length whole - 2) (drop 2 whole) ≡ drop 2 whole
behind-frame whole = let l = length-drop 2 whole in take_all (length whole - 2) (drop 2 whole) (omega arith)

pub udp-whole : (r : Reply) (d : Draft) (whole : List ℕ) (n : ℕ) → d ≡ draft_of r → 12 + length d.written.bytes ≤ 512
    → whole ≡ (u16 n ++ header d.id d.flags d.count) ++ d.written.bytes → take (length whole - 2) (drop 2 whole) ≡ udp_bytes r
udp-whole r d whole n e h g =
    let l = length-reply_bytes r d e in
    behind-frame whole ∙ message-is r d whole n e g ∙ sym (udp-fits r (omega arith))

-- The first so many bytes behind a header.
cut-part : (whole bytes : List ℕ) (n id flags count asked : ℕ) → whole ≡ (u16 n ++ header id flags count) ++ bytes
    → take (14 + asked - 2) (drop 2 whole) ≡ header id flags count ++ take asked bytes
cut-part whole bytes n id flags count asked e =
    ap (λ (bs : List ℕ). take (14 + asked - 2) (drop 2 bs)) e
    ∙ ap (λ (k : ℕ). take k (header id flags count ++ bytes)) (omega arith)
    ∙ take-append-add (header id flags count) bytes asked

truncated-is : (r : Reply) (d : Draft) → d ≡ draft_of r → truncated_bytes r ≡ header d.id (d.flags + 512) 0 ++ take d.asked d.written.bytes
unfolding truncated_bytes draft_of
truncated-is r d e =
    let q : Written = question_written r.question in
    ap (λ (bs : List ℕ). header r.id (r.flags + 512) 0 ++ bs) (sym (take-append_seam q.bytes (answers_written r.answers (12 + length q.bytes) q.table).bytes))
    ∙ ap (λ (f : Draft). header f.id (f.flags + 512) 0 ++ take f.asked f.written.bytes) (sym e)

cut-is : (r : Reply) (d : Draft) (whole : List ℕ) (n : ℕ) → d ≡ draft_of r → whole ≡ (u16 n ++ header d.id (d.flags + 512) 0) ++ d.written.bytes
    → take (14 + d.asked - 2) (drop 2 whole) ≡ truncated_bytes r
cut-is r d whole n e g = cut-part whole d.written.bytes n d.id (d.flags + 512) 0 d.asked g ∙ sym (truncated-is r d e)

pub udp-cut : (r : Reply) (d : Draft) (whole : List ℕ) (n : ℕ) → d ≡ draft_of r → 512 < 12 + length d.written.bytes
    → whole ≡ (u16 n ++ header d.id (d.flags + 512) 0) ++ d.written.bytes → take (14 + d.asked - 2) (drop 2 whole) ≡ udp_bytes r
udp-cut r d whole n e h g =
    let l = length-reply_bytes r d e in
    cut-is r d whole n e g ∙ sym (udp-cuts r (omega arith))

pub cut-reads : (r : Reply) (d : Draft) (whole : List ℕ) (n : ℕ) → d ≡ draft_of r → d.flags ≤ 34179 → whole ≡ (u16 n ++ header d.id (d.flags + 512) 0) ++ d.written.bytes → IsReply r
    → message_of (take (14 + d.asked - 2) (drop 2 whole)) ≡ Some (record { id = r.id; flags = r.flags + 512; question = r.question; records = [] })
cut-reads r d whole n e f g h =
    let flags = draft-flags_are r d e in
    ap message_of (cut-is r d whole n e g) ∙ truncated_reads r h.id (omega arith) h.name h.kind h.class

pub length-take-most : (n : ℕ) (xs : List ℕ) → length (take n xs) ≤ n
length-take-most n xs = let l = length-take n xs in omega arith
