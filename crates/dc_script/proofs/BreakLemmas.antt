-- What a reader's state says of the script's next line.
use Rattle.std.proofs.Common.{◌≡◌, ℕ, ◌+◌, ◌<◌, ◌^◌, Bool, true, false, bytes_eq, if◌then◌else◌, List, [], ◌∷◌, ◌++◌, length, take, codes, Option, Some, None, sym, ◌∙◌, ap, arith, append_assoc, length-append, inl, inr, subst, add-zero}
use Rattle.std.proofs.lemmas.List.{append-nil, take-append-le}
use Rattle.std.specs.Io.KnownBytes.{IsAtEnd}
use Rattle.dc_model.specs.Event.{Event}
use Rattle.dc_script.specs.Script.{bad_at, most_line}
use Rattle.dc_script.specs.Read.{says, line_event, unread, Read-same, ReadOff}
use Rattle.dc_script.specs.World.{IsOver, Breaks, SaysNoMore}
use Rattle.dc_script.proofs.ReadLemmas.{HasNoFeed, says-event, says-bad, says-none, says-end, says-more, says-long, unread-more, unread-found, unread-end, says-behind}

-- Something stands behind the line `end`.
pub Breaks-behind : (left : Option (List ℕ)) (found : Bool) (line rest : List ℕ) (lines k : ℕ) → 0 < length ((if found then line ++ (10 ∷ []) else []) ++ rest)
    → (lines + 1 + 1 < 2 ^ 64 → k ≡ lines + 1 + 1) → Breaks left (unread true found line rest) lines k
unfolding unread
Breaks-behind left found line rest lines k some number =
    record { ahead = 1; near = omega arith; number = number; bad = inl (λ tail n. says-more n ((if found then line ++ (10 ∷ []) else []) ++ rest) tail some) }

-- Nothing stands behind it.
pub IsOver-end : (line rest : List ℕ) → length rest ≡ 0 → IsOver (unread true false line rest)
unfolding unread
IsOver-end line [] h = λ n. says-end n
IsOver-end line (c ∷ cs) h = absurd (omega arith)

-- The line that was found is bad.
pub Breaks-line : (left : Option (List ℕ)) (line rest : List ℕ) (lines k : ℕ) → HasNoFeed line → bytes_eq line (codes "end") ≡ false → line_event line ≡ None
    → (lines + 1 + 0 < 2 ^ 64 → k ≡ lines + 1 + 0) → Breaks left (unread false true line rest) lines k
unfolding unread
Breaks-line left line rest lines k one other none number = record {
  ahead = 0;
  near = omega arith;
  number = number;
  bad = inl (λ tail n.
      let text : ((line ++ (10 ∷ [])) ++ rest) ++ tail ≡ line ++ (10 ∷ (rest ++ tail)) = ap (λ l. l ++ tail) (append_assoc line (10 ∷ []) rest) ∙ append_assoc line (10 ∷ rest) tail in
      let same : n + 0 ≡ n = omega arith in
      ap (says n) text ∙ says-bad n line (rest ++ tail) one other none ∙ ap bad_at (sym same));
}

-- The next line is too long.
pub Breaks-long : (left : Option (List ℕ)) (line rest : List ℕ) (lines k : ℕ) → (m : ℕ) → m ≡ most_line + 1 → most_line < length rest → HasNoFeed (take m rest)
    → (lines + 1 + 0 < 2 ^ 64 → k ≡ lines + 1 + 0) → Breaks left (unread false false line rest) lines k
unfolding unread
Breaks-long left line rest lines k m e long one number = record {
  ahead = 0;
  near = omega arith;
  number = number;
  bad = inl (λ tail n.
      let front : take m rest ≡ take m (rest ++ tail) = sym (take-append-le m rest tail (omega (arith, e, long))) in
      let P : List ℕ → Type 0 = λ t. HasNoFeed t in
      let Q : ℕ → Type 0 = λ j. HasNoFeed (take j (rest ++ tail)) in
      let same : n + 0 ≡ n = omega arith in
      says-long n (rest ++ tail) (subst Q e (subst P front one)) ∙ ap bad_at (sym same));
}

-- The last line has no end.
pub Breaks-short : (left : Option (List ℕ)) (line rest : List ℕ) (lines k : ℕ) → HasNoFeed rest → IsAtEnd left
    → (lines + 1 + 0 < 2 ^ 64 → k ≡ lines + 1 + 0) → Breaks left (unread false false line rest) lines k
unfolding unread
Breaks-short left line rest lines k one end number = record {
  ahead = 0;
  near = omega arith;
  number = number;
  bad = inr (end, λ n. let same : n + 0 ≡ n = omega arith in says-none n rest one ∙ ap bad_at (sym same));
}

-- The line that was found is an event's.
pub ReadOff-event : {S : Type 0} (took : S → List ℕ → S → Type 0) → ((a : S) → took a [] a) → (a : S) (line line' rest : List ℕ) (lines last : ℕ) (e : Event)
    → HasNoFeed line → bytes_eq line (codes "end") ≡ false → line_event line ≡ Some e → (lines + 1 < 2 ^ 64 → last ≡ lines + 1)
    → ReadOff took a (unread false true line rest) lines (e ∷ []) a (unread false false line' rest) last
unfolding unread
ReadOff-event took none a line line' rest lines last e one other event number = record {
  bytes = [];
  taken = none a;
  read = λ tail n.
      let text : ((line ++ (10 ∷ [])) ++ rest) ++ tail ≡ line ++ (10 ∷ (rest ++ tail)) = ap (λ l. l ++ tail) (append_assoc line (10 ∷ []) rest) ∙ append_assoc line (10 ∷ rest) tail in
      ap (says n) text ∙ says-event n line (rest ++ tail) e one other event;
  counted = number;
}

-- A line was found in what was held and taken.
pub ReadOff-found : {S : Type 0} (took : S → List ℕ → S → Type 0) (a b : S) (ended found : Bool) (line line' rest rest' more : List ℕ) (lines : ℕ)
    → found ≡ false → took a more b → rest ++ more ≡ line' ++ (10 ∷ rest')
    → ReadOff took a (unread ended found line rest) lines [] b (unread ended true line' rest') lines
ReadOff-found took a b ended found line line' rest rest' more lines f t e =
    let same : unread ended false line rest ++ more ≡ unread ended true line' rest' =
    unread-more ended line line rest more ∙ ap (unread ended false line) e ∙ unread-found ended line' line rest' in
    let P : Bool → Type 0 = λ b. unread ended b line rest ++ more ≡ unread ended true line' rest' in
    record { bytes = more; taken = t; read = Read-same (unread ended found line rest) more (unread ended true line' rest') (subst P (sym f) same); counted = λ h. sym (add-zero lines) }

-- Bytes were taken, and no line was found.
pub ReadOff-more : {S : Type 0} (took : S → List ℕ → S → Type 0) (a b : S) (ended found : Bool) (line line' rest rest' more : List ℕ) (lines : ℕ)
    → found ≡ false → took a more b → rest' ≡ rest ++ more
    → ReadOff took a (unread ended found line rest) lines [] b (unread ended found line' rest') lines
ReadOff-more took a b ended found line line' rest rest' more lines f t e =
    let same : unread ended false line rest ++ more ≡ unread ended false line' rest' = unread-more ended line line' rest more ∙ ap (unread ended false line') (sym e) in
    let P : Bool → Type 0 = λ b. unread ended b line rest ++ more ≡ unread ended b line' rest' in
    record { bytes = more; taken = t; read = Read-same (unread ended found line rest) more (unread ended found line' rest') (subst P (sym f) same); counted = λ h. sym (add-zero lines) }

-- The line `end` was found, and is read now.
pub ReadOff-end : {S : Type 0} (took : S → List ℕ → S → Type 0) → ((a : S) → took a [] a) → (a : S) (line line' rest : List ℕ) (lines : ℕ) → line ≡ codes "end"
    → ReadOff took a (unread false true line rest) lines [] a (unread true false line' rest) lines
ReadOff-end took none a line line' rest lines e =
    record { bytes = []; taken = none a; read = Read-same (unread false true line rest) [] (unread true false line' rest) (append-nil _ ∙ unread-end line line' rest e); counted = λ h. sym (add-zero lines) }

-- Something is behind the line `end`, whatever was found there.
pub Breaks-found : (left : Option (List ℕ)) (line rest : List ℕ) (lines k : ℕ) → (lines + 1 + 1 < 2 ^ 64 → k ≡ lines + 1 + 1) → Breaks left (unread true true line rest) lines k
Breaks-found left line rest lines k number =
    Breaks-behind left true line rest lines k (omega (arith, length-append (line ++ (10 ∷ [])) rest, length-append line (10 ∷ []))) number

-- What is held behind the line `end`, or before it, has no whole line.
pub no_more : (ended : Bool) (line rest : List ℕ) → HasNoFeed rest → SaysNoMore (unread ended false line rest)
unfolding unread
no_more false line rest one = λ n. ap (λ s. s.events) (says-none n rest one)
no_more true line [] one = λ n. ap (λ s. s.events) (says-end n)
no_more true line (c ∷ cs) one = λ n. ap (λ s. s.events) (says-behind n c cs)
