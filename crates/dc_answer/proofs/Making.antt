-- A reply that is made answer by answer.
use Rattle.std.proofs.Common.{◌≡◌, ℕ, ◌+◌, ◌≤◌, Bool, true, false, nat_le, List, [], ◌∷◌, ◌++◌, length, refl, sym, ◌∙◌, ap, arith, IsTrue}
use Rattle.std.proofs.lemmas.Bool.Decides.{nat_tests}
use Rattle.std.proofs.lemmas.List.{length-append}
use Rattle.dc_model.specs.Name.{wire}
use Rattle.dc_model.specs.Message.{Request, u16}
use Rattle.dc_model.specs.Reply.{Suffix, Written, name_written, reply_to, Answer, answer_written, answers_written, Reply, with_answer, with_flags, question_written, header, reply_bytes, fits}
use Rattle.dc_model.proofs.NameLemmas.{leb_yes}
use Rattle.dc_model.proofs.WriteLemmas.{name_whole}
use Rattle.dc_reply.specs.Draft.{Draft, draft_of}
use Rattle.dc_answer.specs.Replies.{Replies}

-- A reply that was made is begun.
pub Replies-begun : (d : Draft) (r : Reply) → Replies true d r → IsTrue d.begun
unfolding draft_of
Replies-begun d r h = ap (λ (e : Draft). e.begun) (h.draft refl)

pub begun_if_made : (made : Bool) (d : Draft) (r : Reply) → Replies made d r → made ≡ true → IsTrue d.begun
unfolding draft_of
begun_if_made made d r h e = ap (λ (f : Draft). f.begun) (h.draft e)

-- Answers that are added make a reply longer.

written-least : (xs ys : List Answer) (at : ℕ) (t : List Suffix) → length (answers_written xs at t).bytes ≤ length (answers_written (xs ++ ys) at t).bytes
written-least [] ys at t = omega arith
written-least (a ∷ xs) ys at t =
    let first : Written = answer_written a at t in
    let l1 = length-append first.bytes (answers_written xs (at + length first.bytes) first.table).bytes in
    let l2 = length-append first.bytes (answers_written (xs ++ ys) (at + length first.bytes) first.table).bytes in
    let h = written-least xs ys (at + length first.bytes) first.table in
    omega (arith, l1, l2, h)

length-reply : (r : Reply) → length (reply_bytes r) ≡ 12 + (length (question_written r.question).bytes + length (answers_written r.answers (12 + length (question_written r.question).bytes) (question_written r.question).table).bytes)
unfolding reply_bytes
length-reply r =
    let q : Written = question_written r.question in
    let w : Written = answers_written r.answers (12 + length q.bytes) q.table in
    let l1 = length-append (header r.id r.flags (length r.answers)) (q.bytes ++ w.bytes) in
    let l2 = length-append q.bytes w.bytes in
    omega (arith, l1, l2)

-- A reply with further answers.
abbrev pub with_more : Reply → List Answer → Reply
with_more r ys = record { id = r.id; question = r.question; flags = r.flags; answers = r.answers ++ ys }

too_long : (m n : ℕ) → nat_le m 65535 ≡ false → m ≤ n → nat_le n 65535 ≡ false
too_long m n h l = grind (arith, nat_tests)

-- One that is no message is none with further answers.
pub fits-with_more : (r : Reply) (ys : List Answer) → fits r ≡ false → fits (with_more r ys) ≡ false
fits-with_more r ys h =
    let l1 = length-reply r in
    let l2 = length-reply (with_more r ys) in
    let w = written-least r.answers ys (12 + length (question_written r.question).bytes) (question_written r.question).table in
    too_long (length (reply_bytes r)) (length (reply_bytes (with_more r ys))) h (omega (arith, l1, l2, w))

-- Whether it is a message doesn't hang on its flags.
fits-with_flags : (r : Reply) (flags : ℕ) → fits (with_flags flags r) ≡ fits r
fits-with_flags r flags = ap (λ n. nat_le n 65535) (length-reply (with_flags flags r) ∙ sym (length-reply r))

-- A question alone is a message.
pub Replies-asked : (d : Draft) (r : Request) → d ≡ draft_of (reply_to r) → length (wire r.name) ≤ 255 → Replies true d (reply_to r)
Replies-asked d r e h =
    let q : Written = question_written (reply_to r).question in
    let labels : length (name_written r.name 12 []).bytes ≡ length (wire r.name) = ap (λ (bs : List ℕ). length bs) (name_whole r.name 12 [] tt) in
    let size : length q.bytes ≡ length (name_written r.name 12 []).bytes + 4 = length-append (name_written r.name 12 []).bytes (u16 r.kind ++ u16 r.class) in
    let whole : length (reply_bytes (reply_to r)) ≡ 12 + (length q.bytes + 0) = length-reply (reply_to r) in
    record { fits = sym (leb_yes (length (reply_bytes (reply_to r))) 65535 (omega arith)); draft = λ _. e }

-- An answer more.
pub Replies-with_answer : (made : Bool) (old new : Draft) (a : Answer) (r : Reply) → Replies true old r
    → ((s : Reply) → old ≡ draft_of s → made ≡ fits (with_answer a s)) → ((s : Reply) → old ≡ draft_of s → made ≡ true → new ≡ draft_of (with_answer a s))
    → Replies made new (with_answer a r)
Replies-with_answer made old new a r h f g = record { fits = f r (h.draft refl); draft = g r (h.draft refl) }

-- Other flags.
pub Replies-with_flags : (old new : Draft) (flags : ℕ) (r : Reply) → Replies true old r → new ≡ draft_of (with_flags flags r) → Replies true new (with_flags flags r)
Replies-with_flags old new flags r h e = record { fits = h.fits ∙ sym (fits-with_flags r flags); draft = λ _. e }

pub Replies-no_flags : (old new : Draft) (flags : ℕ) (r : Reply) → Replies false old r → Replies false new (with_flags flags r)
Replies-no_flags old new flags r h = record { fits = h.fits ∙ sym (fits-with_flags r flags); draft = λ e. absurd (cc) }

-- What doesn't fit doesn't fit with more either.
pub Replies-no_more : (old new : Draft) (r : Reply) (ys : List Answer) → Replies false old r → Replies false new (with_more r ys)
Replies-no_more old new r ys h = record { fits = sym (fits-with_more r ys (sym h.fits)); draft = λ e. absurd (cc) }
