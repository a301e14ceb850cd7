-- An answer that is written in steps, the length of its data last.
use Rattle.std.proofs.Common.{◌≡◌, ℕ, ◌+◌, ◌-◌, ◌/◌, ◌%◌, List, ◌++◌, length, take, drop, refl, sym, ◌∙◌, ap, arith}
use Rattle.std.proofs.lemmas.List.{append_assoc, length-append}
use Rattle.std.proofs.Math.Seq.{take-append-add, drop-append-add}
use Rattle.dc_model.specs.Message.{class_in, u16, u32}
use Rattle.dc_model.specs.Reply.{Written, behind_bytes, Answer, name_written, body_written, answer_written}
use Rattle.dc_reply.specs.Put.{with_more}

-- The ten bytes behind an owner.
abbrev pub ten : ℕ → ℕ → ℕ → List ℕ
ten kind ttl len = u16 kind ++ (u16 class_in ++ (u32 ttl ++ u16 len))

-- The length of the data is written over its place.
length-filled : (xs body : List ℕ) (kind ttl len : ℕ)
    → take (length xs + 8) ((xs ++ ten kind ttl 0) ++ body) ++ (u16 len ++ drop (length xs + 8 + 2) ((xs ++ ten kind ttl 0) ++ body)) ≡ xs ++ (ten kind ttl len ++ body)
length-filled xs body kind ttl len =
    let whole = append_assoc xs (ten kind ttl 0) body in
    let front : take (length xs + 8) ((xs ++ ten kind ttl 0) ++ body) ≡ xs ++ take 8 (ten kind ttl 0) =
    ap (λ v. take (length xs + 8) v) whole ∙ take-append-add xs (ten kind ttl 0 ++ body) 8 in
    let behind : drop (length xs + 8 + 2) ((xs ++ ten kind ttl 0) ++ body) ≡ body =
    ap (λ i. drop i ((xs ++ ten kind ttl 0) ++ body)) (omega arith) ∙ ap (λ v. drop (length xs + 10) v) whole ∙ drop-append-add xs (ten kind ttl 0 ++ body) 10 in
    ap (λ v. v ++ (u16 len ++ drop (length xs + 8 + 2) ((xs ++ ten kind ttl 0) ++ body))) front
    ∙ ap (λ v. (xs ++ take 8 (ten kind ttl 0)) ++ (u16 len ++ v)) behind
    ∙ append_assoc xs (take 8 (ten kind ttl 0)) (u16 len ++ body)

-- The last step: the length of the data is written over its place.
answer-end : (front owner : List ℕ) (body after : Written) (kind ttl at len : ℕ) → at ≡ length (front ++ owner) + 8 → len ≡ length body.bytes
    → after ≡ record { bytes = take at (((front ++ owner) ++ ten kind ttl 0) ++ body.bytes) ++ (u16 len ++ drop (at + 2) (((front ++ owner) ++ ten kind ttl 0) ++ body.bytes)); table = body.table }
    → after ≡ record { bytes = front ++ ((owner ++ ten kind ttl (length body.bytes)) ++ body.bytes); table = body.table }
answer-end front owner body after kind ttl at len e f g =
    g ∙ ap (λ (bs : List ℕ). record { bytes = bs; table = body.table })
    (ap (λ (i : ℕ). take i (((front ++ owner) ++ ten kind ttl 0) ++ body.bytes) ++ (u16 len ++ drop (i + 2) (((front ++ owner) ++ ten kind ttl 0) ++ body.bytes))) e
    ∙ length-filled (front ++ owner) body.bytes kind ttl len
    ∙ ap (λ (j : ℕ). (front ++ owner) ++ (ten kind ttl j ++ body.bytes)) f
    ∙ append_assoc front owner (ten kind ttl (length body.bytes) ++ body.bytes)
    ∙ ap (λ v. front ++ v) (sym (append_assoc owner (ten kind ttl (length body.bytes)) body.bytes)))

-- Two bytes of a number are those of its last 16 bits.
u16-cut : (n : ℕ) → u16 (n % 65536) ≡ u16 n
u16-cut n =
    let high : n % 65536 / 256 % 256 ≡ n / 256 % 256 = omega arith in
    let low : n % 65536 % 256 ≡ n % 256 = omega arith in
    rw (high, low) refl

-- The steps of an answer: its owner, ten bytes, its data, and the length of the data.
pub answer-steps : (old : Written) (a : Answer) (named filled bodied after : Written) (at len cut : ℕ)
    → named ≡ with_more old (name_written a.owner) → at ≡ length named.bytes + 8
    → filled ≡ record { bytes = named.bytes ++ ten a.kind a.ttl 0; table = named.table }
    → bodied ≡ with_more filled (body_written a.body) → len ≡ length bodied.bytes - at - 2 → cut ≡ len % 65536
    → after ≡ record { bytes = take at bodied.bytes ++ (u16 cut ++ drop (at + 2) bodied.bytes); table = bodied.table }
    → after ≡ with_more old (answer_written a)
unfolding answer_written
answer-steps old a named filled bodied after at len cut e1 e2 e3 e4 e5 e7 e6 =
    let place : ℕ = 12 + length old.bytes in
    let owner : Written = name_written a.owner place old.table in
    let xs : List ℕ = old.bytes ++ owner.bytes in
    let empty : List ℕ = ten a.kind a.ttl 0 in
    let body : Written = body_written a.body (place + length owner.bytes + 10) owner.table in
    let l1 = length-append old.bytes owner.bytes in
    let l2 = length-append xs empty in
    let l3 = length-append (xs ++ empty) body.bytes in
    let filled_is : filled ≡ record { bytes = xs ++ empty; table = owner.table } = e3 ∙ ap (λ (w : Written). record { bytes = w.bytes ++ empty; table = w.table }) e1 in
    let same_place : 12 + length (xs ++ empty) ≡ place + length owner.bytes + 10 = omega arith in
    let bodied_is : bodied ≡ record { bytes = (xs ++ empty) ++ body.bytes; table = body.table } =
    e4 ∙ ap (λ (w : Written). with_more w (body_written a.body)) filled_is ∙ ap (λ p. behind_bytes (xs ++ empty) (body_written a.body p owner.table)) same_place in
    let at_is : at ≡ length xs + 8 = e2 ∙ ap (λ (w : Written). length w.bytes + 8) e1 in
    let size : length bodied.bytes ≡ length ((xs ++ empty) ++ body.bytes) = ap (λ (w : Written). length w.bytes) bodied_is in
    let len_is : len ≡ length body.bytes = omega arith in
    answer-end old.bytes owner.bytes body after a.kind a.ttl at len at_is len_is
    (e6 ∙ ap (λ (bs : List ℕ). record { bytes = take at bodied.bytes ++ (bs ++ drop (at + 2) bodied.bytes); table = bodied.table }) (ap u16 e7 ∙ u16-cut len)
    ∙ ap (λ (w : Written). record { bytes = take at w.bytes ++ (u16 len ++ drop (at + 2) w.bytes); table = w.table }) bodied_is)
