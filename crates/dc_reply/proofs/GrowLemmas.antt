-- What is written only adds to the suffixes, and how long it is.
use Rattle.std.proofs.Common.{◌≡◌, ℕ, ◌+◌, ◌≤◌, Bool, true, false, if◌then◌else◌, List, [], ◌∷◌, ◌++◌, length, take, refl, sym, ◌∙◌, ap, arith, Option, Some, None}
use Rattle.std.proofs.lemmas.List.{append_assoc, append-nil, length-append}
use Rattle.std.proofs.Math.Seq.{take-append_seam}
use Rattle.dc_model.specs.Name.{Name, lower}
use Rattle.dc_model.specs.Message.{Body, bytes, host, mx, soa, class_in, u16, u32}
use Rattle.dc_model.specs.Reply.{Suffix, Written, suffix_of, can_join, joined, pointed, labelled, name_written, body_written, Answer, answer_written}
use Rattle.dc_reply.specs.Put.{plain_length}

-- The suffixes are those before, and others behind them.
pub record Extends (before after : List Suffix) : Type 0 where
  pub more : List Suffix
  pub is : after ≡ before ++ more

extends-refl : (t : List Suffix) → Extends t t
extends-refl t = record { more = []; is = sym (append-nil t) }

extends-trans : (t u v : List Suffix) → Extends t u → Extends u v → Extends t v
extends-trans t u v p q = record {
  more = p.more ++ q.more;
  is = q.is ∙ ap (λ l. l ++ q.more) p.is ∙ append_assoc t p.more q.more;
}

joined-extends : (n : Name) (at : ℕ) (t : List Suffix) (b : Bool) → Extends t (if b then t ++ (record { name = lower n; place = at } ∷ []) else t)
joined-extends n at t true = record { more = record { name = lower n; place = at } ∷ []; is = refl }
joined-extends n at t false = extends-refl t

pointed-extends : (o : Option Suffix) (t : List Suffix) (w : Written) → Extends t w.table → Extends t (pointed o t w).table
pointed-extends None t w h = h
pointed-extends (Some s) t w h = extends-refl t

pub name-extends : (n : Name) (at : ℕ) (t : List Suffix) → Extends t (name_written n at t).table
name-extends [] at t = extends-refl t
name-extends (l ∷ ls) at t =
    let u : List Suffix = joined (l ∷ ls) at t in
    pointed-extends (suffix_of (l ∷ ls) t) t (labelled l (name_written ls (at + 1 + length l) u))
    (extends-trans t u (name_written ls (at + 1 + length l) u).table (joined-extends (l ∷ ls) at t (can_join (l ∷ ls) at t)) (name-extends ls (at + 1 + length l) u))

body-extends : (b : Body) (at : ℕ) (t : List Suffix) → Extends t (body_written b at t).table
body-extends (bytes bs) at t = extends-refl t
body-extends (host n) at t = name-extends n at t
body-extends (mx preference n) at t = name-extends n (at + 2) t
body-extends (soa n m numbers) at t =
    let first : Written = name_written n at t in
    extends-trans t first.table (name_written m (at + length first.bytes) first.table).table (name-extends n at t) (name-extends m (at + length first.bytes) first.table)

answer-extends : (a : Answer) (at : ℕ) (t : List Suffix) → Extends t (answer_written a at t).table
unfolding answer_written
answer-extends a at t =
    let owner : Written = name_written a.owner at t in
    extends-trans t owner.table (body_written a.body (at + length owner.bytes + 10) owner.table).table (name-extends a.owner at t) (body-extends a.body (at + length owner.bytes + 10) owner.table)

taken : (t u : List Suffix) → Extends t u → take (length t) u ≡ t
taken t u h = ap (λ l. take (length t) l) h.is ∙ take-append_seam t h.more

-- The suffixes before are the first of those after an answer.
pub answer-keeps : (a : Answer) (at : ℕ) (t : List Suffix) → take (length t) (answer_written a at t).table ≡ t
answer-keeps a at t = taken t (answer_written a at t).table (answer-extends a at t)

body-least : (b : Body) (at : ℕ) (t : List Suffix) → plain_length b ≤ length (body_written b at t).bytes
body-least (bytes bs) at t = omega arith
body-least (host n) at t = omega arith
body-least (mx preference n) at t = omega arith
body-least (soa n m numbers) at t =
    let first : Written = name_written n at t in
    let second : Written = name_written m (at + length first.bytes) first.table in
    let l1 = length-append first.bytes (second.bytes ++ numbers) in
    let l2 = length-append second.bytes numbers in
    omega (arith, l1, l2)

-- An answer has ten bytes at least, and those of its data.
pub answer-least : (a : Answer) (at : ℕ) (t : List Suffix) → 10 + plain_length a.body ≤ length (answer_written a at t).bytes
unfolding answer_written
answer-least a at t =
    let owner : Written = name_written a.owner at t in
    let body : Written = body_written a.body (at + length owner.bytes + 10) owner.table in
    let ten : List ℕ = u16 a.kind ++ (u16 class_in ++ (u32 a.ttl ++ u16 (length body.bytes))) in
    let b = body-least a.body (at + length owner.bytes + 10) owner.table in
    let l1 = length-append (owner.bytes ++ ten) body.bytes in
    let l2 = length-append owner.bytes ten in
    omega (arith, b, l1, l2)
