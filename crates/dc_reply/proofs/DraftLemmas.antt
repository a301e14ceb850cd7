-- What is kept of a reply, step by step.
use Rattle.std.proofs.Common.{◌≡◌, ℕ, ◌+◌, ◌≤◌, ◌<◌, true, false, nat_le, List, [], ◌∷◌, ◌++◌, length, take, refl, sym, ◌∙◌, ap, arith}
use Rattle.std.proofs.lemmas.List.{append_assoc, append-nil, length-append, length-take}
use Rattle.std.proofs.lemmas.Grind.{common_steps}
use Rattle.std.proofs.Math.Seq.{take-append_seam}
use Rattle.dc_model.specs.Message.{Request}
use Rattle.dc_model.specs.Reply.{Suffix, Written, behind_bytes, Answer, answer_written, answers_written, Reply, reply_to, with_answer, question_written, reply_bytes, fits, header}
use Rattle.dc_model.proofs.NameLemmas.{leb_yes}
use Rattle.dc_reply.specs.Put.{with_more, plain_length}
use Rattle.dc_reply.specs.Draft.{Draft, draft_of}
use Rattle.dc_reply.proofs.GrowLemmas.{answer-keeps, answer-least}

-- Answers behind one another

answers-none : (w : Written) → with_more w (answers_written []) ≡ w
answers-none w = ap (λ (bs : List ℕ). record { bytes = bs; table = w.table }) (append-nil w.bytes)

answers-cons : (w : Written) (a : Answer) (others : List Answer) → with_more w (answers_written (a ∷ others)) ≡ with_more (with_more w (answer_written a)) (answers_written others)
answers-cons w a others =
    let at : ℕ = 12 + length w.bytes in
    let first : Written = answer_written a at w.table in
    let l = length-append w.bytes first.bytes in
    let place : at + length first.bytes ≡ 12 + length (w.bytes ++ first.bytes) = omega arith in
    let rest : ℕ → Written = λ p. answers_written others p first.table in
    ap (λ (bs : List ℕ). record { bytes = bs; table = (rest (at + length first.bytes)).table }) (sym (append_assoc w.bytes first.bytes (rest (at + length first.bytes)).bytes))
    ∙ ap (λ (p : ℕ). behind_bytes (w.bytes ++ first.bytes) (rest p)) place

answers-snoc : (w : Written) (answers : List Answer) (a : Answer) → with_more w (answers_written (answers ++ a ∷ [])) ≡ with_more (with_more w (answers_written answers)) (answer_written a)
answers-snoc w [] a =
    answers-cons w a [] ∙ answers-none (with_more w (answer_written a)) ∙ ap (λ (v : Written). with_more v (answer_written a)) (sym (answers-none w))
answers-snoc w (b ∷ others) a =
    answers-cons w b (others ++ a ∷ []) ∙ answers-snoc (with_more w (answer_written b)) others a
    ∙ ap (λ (v : Written). with_more v (answer_written a)) (sym (answers-cons w b others))

-- A reply without answers.
pub draft-start : (r : Request) (w : Written) → w ≡ question_written (record { name = r.name; kind = r.kind; class = r.class })
    → draft_of (reply_to r) ≡ record { begun = true; id = r.id; flags = 33152; count = 0; asked = length w.bytes; written = w }
unfolding draft_of
draft-start r w e =
    let q : Written = question_written (record { name = r.name; kind = r.kind; class = r.class }) in
    ap (λ (v : Written). record { begun = true; id = r.id; flags = 33152; count = 0; asked = length q.bytes; written = v }) (answers-none q)
    ∙ ap (λ (v : Written). record { begun = true; id = r.id; flags = 33152; count = 0; asked = length v.bytes; written = v }) (sym e)

-- A reply with one more answer.
pub draft-answer : (r : Reply) (a : Answer) (d : Draft) → d ≡ draft_of r
    → draft_of (with_answer a r) ≡ record { begun = d.begun; id = d.id; flags = d.flags; count = d.count + 1; asked = d.asked; written = with_more d.written (answer_written a) }
unfolding draft_of
draft-answer r a d e =
    let q : Written = question_written r.question in
    let count : length (r.answers ++ a ∷ []) ≡ length r.answers + 1 = length-append r.answers (a ∷ []) in
    ap (λ (n : ℕ). record { begun = true; id = r.id; flags = r.flags; count = n; asked = length q.bytes; written = with_more q (answers_written (r.answers ++ a ∷ [])) }) count
    ∙ ap (λ (w : Written). record { begun = true; id = r.id; flags = r.flags; count = length r.answers + 1; asked = length q.bytes; written = w }) (answers-snoc q r.answers a)
    ∙ ap (λ (f : Draft). record { begun = f.begun; id = f.id; flags = f.flags; count = f.count + 1; asked = f.asked; written = with_more f.written (answer_written a) }) (sym e)

-- A reply with other flags.
pub draft-flags : (r : Reply) (d : Draft) (flags : ℕ) → d ≡ draft_of r
    → draft_of (record { id = r.id; question = r.question; flags = flags; answers = r.answers }) ≡ record { begun = d.begun; id = d.id; flags = flags; count = d.count; asked = d.asked; written = d.written }
unfolding draft_of
draft-flags r d flags e = ap (λ (f : Draft). record { begun = f.begun; id = f.id; flags = flags; count = f.count; asked = f.asked; written = f.written }) (sym e)

pub draft-flags_are : (r : Reply) (d : Draft) → d ≡ draft_of r → r.flags ≡ d.flags
unfolding draft_of
draft-flags_are r d e = ap (λ (f : Draft). f.flags) (sym e)

-- The bytes of a reply, by what is kept of it.
pub reply_bytes-is : (r : Reply) (d : Draft) → d ≡ draft_of r → reply_bytes r ≡ header d.id d.flags d.count ++ d.written.bytes
unfolding reply_bytes draft_of
reply_bytes-is r d e = ap (λ (f : Draft). header f.id f.flags f.count ++ f.written.bytes) (sym e)

-- Whether an answer fits is told by what is written with it.
pub fits-answer : (r : Reply) (a : Answer) (d : Draft) → d ≡ draft_of r
    → fits (with_answer a r) ≡ nat_le (12 + length (with_more d.written (answer_written a)).bytes) 65535
fits-answer r a d e =
    let w : Written = with_more d.written (answer_written a) in
    let bytes = reply_bytes-is (with_answer a r) (draft_of (with_answer a r)) refl in
    let kept = draft-answer r a d e in
    let size : length (reply_bytes (with_answer a r)) ≡ 12 + length w.bytes =
    ap length bytes ∙ ap (λ (f : Draft). length (header f.id f.flags f.count ++ f.written.bytes)) kept ∙ length-append (header d.id d.flags (d.count + 1)) w.bytes in
    ap (λ n. nat_le n 65535) size

leb_no : (a b : ℕ) → b < a → nat_le a b ≡ false
leb_no a b h = grind (arith, common_steps)

-- An answer fits exactly where what is written with it is short enough.
pub answer-fits : (r : Reply) (a : Answer) (d : Draft) (after : Written) → d ≡ draft_of r → after ≡ with_more d.written (answer_written a)
    → length after.bytes ≤ 65523 → true ≡ fits (with_answer a r)
answer-fits r a d after e f h =
    let size : length after.bytes ≡ length (with_more d.written (answer_written a)).bytes = ap (λ (w : Written). length w.bytes) f in
    sym (fits-answer r a d e ∙ leb_yes (12 + length (with_more d.written (answer_written a)).bytes) 65535 (omega arith))

pub answer-exceeds : (r : Reply) (a : Answer) (d : Draft) → d ≡ draft_of r → 65523 < length (with_more d.written (answer_written a)).bytes
    → false ≡ fits (with_answer a r)
answer-exceeds r a d e h = sym (fits-answer r a d e ∙ leb_no (12 + length (with_more d.written (answer_written a)).bytes) 65535 (omega arith))

-- What is written with an answer is longer, by ten bytes and its data at least.
pub more-least : (w : Written) (a : Answer) → length w.bytes + 10 + plain_length a.body ≤ length (with_more w (answer_written a)).bytes
more-least w a =
    let at : ℕ = 12 + length w.bytes in
    let l = length-append w.bytes (answer_written a at w.table).bytes in
    let h = answer-least a at w.table in
    omega arith

-- It begins with what was written before.
pub more-known : (w after : Written) (a : Answer) → after ≡ with_more w (answer_written a) → length w.table ≤ length after.table
more-known w after a e =
    let at : ℕ = 12 + length w.bytes in
    let kept : take (length w.table) (answer_written a at w.table).table ≡ w.table = answer-keeps a at w.table in
    let size : length after.table ≡ length (answer_written a at w.table).table = ap (λ (v : Written). length v.table) e in
    let l = length-take (length w.table) (answer_written a at w.table).table in
    let k : length (take (length w.table) (answer_written a at w.table).table) ≡ length w.table = ap length kept in
    omega arith

pub more-undone : (w after : Written) (a : Answer) → after ≡ with_more w (answer_written a)
    → record { bytes = take (length w.bytes) after.bytes; table = take (length w.table) after.table } ≡ w
more-undone w after a e =
    let at : ℕ = 12 + length w.bytes in
    ap (λ (v : Written). record { bytes = take (length w.bytes) v.bytes; table = take (length w.table) v.table }) e
    ∙ ap (λ (bs : List ℕ). record { bytes = bs; table = take (length w.table) (answer_written a at w.table).table }) (take-append_seam w.bytes (answer_written a at w.table).bytes)
    ∙ ap (λ (t : List Suffix). record { bytes = w.bytes; table = t }) (answer-keeps a at w.table)
