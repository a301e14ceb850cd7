-- What was read of a script between two moments.
use Rattle.std.specs.Prelude.{◌≡◌, ℕ, ◌+◌, ◌^◌, ◌<◌, Bool, if◌then◌else◌, nat_le, List, [], ◌∷◌, ◌++◌, length, codes, Option, None, refl}
use Rattle.std.proofs.Common.{sym, ◌∙◌, ap, append_assoc, length-append, add-zero, arith}
use Rattle.std.proofs.lemmas.List.{append-nil}
use Rattle.dc_model.specs.Event.{Event}
use Rattle.dc_script.specs.Script.{Said, said_from, event_of_line, pieces_of, most_line}

-- What is said, with these events before it.
abbrev pub after_events : List Event → Said → Said
after_events events s = record { events = events ++ s.events; bad = s.bad }

-- The event of a line, which has at most 131200 bytes.
abbrev pub line_event : List ℕ → Option Event
line_event line = if nat_le (length line) most_line then event_of_line line else None

-- What a text says from the line of number n on.
abbrev pub says : ℕ → List ℕ → Said
says n text = said_from line_event n (pieces_of text)

-- These events were read off the text: whatever follows, and whatever number the next line has, the text before and the bytes taken say
-- these events, and then what the text after says.
abbrev pub Read : (before taken : List ℕ) → List Event → (after : List ℕ) → Type 0
Read before taken events after =
    (tail : List ℕ) (n : ℕ) → says n (before ++ (taken ++ tail)) ≡ after_events events (says (n + length events) (after ++ tail))

-- The line `end` with its line feed.
abbrev pub end_text : List ℕ
end_text = codes "end" ++ (10 ∷ [])

-- What isn't handed out yet: the line `end`, where it was seen, then a line that was found, and the bytes behind it.
unfoldable pub unread : (ended found : Bool) → (line rest : List ℕ) → List ℕ
unread ended found line rest = (if ended then end_text else []) ++ ((if found then line ++ (10 ∷ []) else []) ++ rest)

-- Between two states of a source and of a reader over it, these events were handed out.
pub record ReadOff {S : Type 0} (took : S → List ℕ → S → Type 0) (old : S) (before : List ℕ) (first : ℕ) (events : List Event) (new : S) (after : List ℕ) (last : ℕ) : Type 0 where
  pub bytes : List ℕ
  pub taken : took old bytes new
  pub read : Read before bytes events after
  pub counted : first + length events < 2 ^ 64 → last ≡ first + length events

-- Laws

pub after_none : (s : Said) → after_events [] s ≡ s
after_none s = refl

pub after_both : (xs ys : List Event) (s : Said) → after_events (xs ++ ys) s ≡ after_events xs (after_events ys s)
after_both xs ys s = ap (λ es. record { events = es; bad = s.bad }) (append_assoc xs ys s.events)

-- Where the text is the same, nothing was read off it.
pub Read-same : (before taken after : List ℕ) → before ++ taken ≡ after → Read before taken [] after
Read-same before taken after e = λ tail n. rw (add-zero, ← e, append_assoc) refl

pub Read-both : (a t b u c : List ℕ) (xs ys : List Event) → Read a t xs b → Read b u ys c → Read a (t ++ u) (xs ++ ys) c
Read-both a t b u c xs ys p q = λ tail n.
    let number : n + length xs + length ys ≡ n + length (xs ++ ys) = rw length-append (omega arith) in
    ap (λ l. says n (a ++ l)) (append_assoc t u tail) ∙ p (u ++ tail) n ∙ ap (after_events xs) (q tail (n + length xs))
    ∙ sym (after_both xs ys (says (n + length xs + length ys) (c ++ tail)))
    ∙ ap (λ k. after_events (xs ++ ys) (says k (c ++ tail))) number

module _ {S : Type 0} (took : S → List ℕ → S → Type 0) (none : (a : S) → took a [] a)
    (both : (a b c : S) (xs ys : List ℕ) → took a xs b → took b ys c → took a (xs ++ ys) c) where
  -- Nothing was handed out where nothing changed.
  pub ReadOff-none : (a : S) (text : List ℕ) (lines : ℕ) → ReadOff took a text lines [] a text lines
  ReadOff-none a text lines = record { bytes = []; taken = none a; read = Read-same text [] text (append-nil text); counted = λ h. sym (add-zero lines) }

  pub ReadOff-both : (a b c : S) (ta tb tc : List ℕ) (na nb nc : ℕ) (xs ys : List Event) → ReadOff took a ta na xs b tb nb → ReadOff took b tb nb ys c tc nc
      → ReadOff took a ta na (xs ++ ys) c tc nc
  ReadOff-both a b c ta tb tc na nb nc xs ys p q = record {
    bytes = p.bytes ++ q.bytes;
    taken = both a b c p.bytes q.bytes p.taken q.taken;
    read = Read-both ta p.bytes tb q.bytes tc xs ys p.read q.read;
    counted = λ h.
        let sum : length (xs ++ ys) ≡ length xs + length ys = length-append xs ys in
        let mid : nb ≡ na + length xs = p.counted (omega (arith, h, sum)) in
        let end : nc ≡ nb + length ys = q.counted (omega (arith, h, sum, mid)) in
        omega (arith, mid, end, sum);
  }
