-- What lines say that are read off a script.
use Rattle.std.proofs.Common.{◌≡◌, ◌≢◌, ℕ, zero, suc, ◌+◌, ◌<◌, Bool, true, false, bytes_eq, eqb, leb, cond, if◌then◌else◌, List, [], ◌∷◌, ◌++◌, length, take, slice_index, codes, Some, None, refl, sym, ◌∙◌, ap, ◌⊎◌, inl, inr, arith, append_assoc, subst}
use Rattle.std.specs.List.{onto_first}
use Rattle.std.proofs.lemmas.List.Splits.{slice_split-cons_yes, slice_split-cons_no}
use Rattle.std.proofs.lemmas.Bool.{eqb-true, cases_lt}
use Rattle.std.proofs.lemmas.Bool.Decides.{nat_tests}
use Rattle.std.proofs.lemmas.Slice.Eq.{bytes_eq-Decides}
use Rattle.dc_model.specs.Event.{Event}
use Rattle.dc_script.specs.Script.{bad_at, said_at_end, said_by_line, said_from, pieces_of, most_line}
use Rattle.dc_script.specs.Read.{after_events, says, line_event, end_text, unread}

-- No line feed stands in the text.
abbrev pub HasNoFeed : List ℕ → Type 0
HasNoFeed text = (k : ℕ) → k < length text → slice_index text k ≢ 10

is_no : (c : ℕ) → c ≢ 10 → eqb c 10 ≡ false
is_no c h = elim (eqb c 10) as (λ b. eqb c 10 ≡ b → b ≡ false) [ true ↦ λ e. absurd (h (eqb-true c 10 e)) | false ↦ λ e. refl ] refl

rest_no : (c : ℕ) (cs : List ℕ) → HasNoFeed (c ∷ cs) → HasNoFeed cs
rest_no c cs h = λ k lt. h (suc k) (omega arith)

-- The pieces of a line with its line feed and what stands behind it.
pub pieces-line : (line rest : List ℕ) → HasNoFeed line → pieces_of (line ++ (10 ∷ rest)) ≡ line ∷ pieces_of rest
pieces-line [] rest h = slice_split-cons_yes (λ c. eqb c 10) 10 rest refl
pieces-line (c ∷ cs) rest h =
    slice_split-cons_no (λ c. eqb c 10) c (cs ++ (10 ∷ rest)) (is_no c (h 0 (omega arith)))
    ∙ ap (onto_first c) (pieces-line cs rest (rest_no c cs h))

-- A text without a line feed is one piece.
pub pieces-one : (text : List ℕ) → HasNoFeed text → pieces_of text ≡ text ∷ []
pieces-one [] h = refl
pieces-one (c ∷ cs) h = slice_split-cons_no (λ c. eqb c 10) c cs (is_no c (h 0 (omega arith))) ∙ ap (onto_first c) (pieces-one cs (rest_no c cs h))

-- Each text has a piece.
abbrev pub HasPiece : List (List ℕ) → Type 0
HasPiece pieces = (piece : List ℕ) × ((rest : List (List ℕ)) × (pieces ≡ piece ∷ rest))

onto_has : (c : ℕ) (pieces : List (List ℕ)) → HasPiece (onto_first c pieces)
onto_has c [] = (c ∷ [], ([], refl))
onto_has c (p ∷ ps) = (c ∷ p, (ps, refl))

cons_has : (b : Bool) (c : ℕ) (pieces : List (List ℕ)) → HasPiece (cond b ([] ∷ pieces) (onto_first c pieces))
cons_has true c pieces = ([], (pieces, refl))
cons_has false c pieces = onto_has c pieces

pub has_piece : (text : List ℕ) → HasPiece (pieces_of text)
has_piece [] = ([], ([], refl))
has_piece (c ∷ cs) = cons_has (eqb c 10) c (pieces_of cs)

-- What a line says with what stands behind it.
pub says-line : (n : ℕ) (line rest : List ℕ) → HasNoFeed line → says n (line ++ (10 ∷ rest)) ≡ said_by_line line_event n line (pieces_of rest) (says (n + 1) rest)
unfolding said_from
says-line n line rest h =
    let p = has_piece rest in
    rw (pieces-line line rest h, p.1.1) refl

-- The line of an event.
pub says-event : (n : ℕ) (line rest : List ℕ) (e : Event) → HasNoFeed line → bytes_eq line (codes "end") ≡ false → line_event line ≡ Some e
    → says n (line ++ (10 ∷ rest)) ≡ after_events (e ∷ []) (says (n + 1) rest)
says-event n line rest e h other event =
    let whole : said_by_line line_event n line (pieces_of rest) (says (n + 1) rest) ≡ after_events (e ∷ []) (says (n + 1) rest) = rw (other, event) refl in
    says-line n line rest h ∙ whole

-- A line that isn't one of an event, nor `end`.
pub says-bad : (n : ℕ) (line rest : List ℕ) → HasNoFeed line → bytes_eq line (codes "end") ≡ false → line_event line ≡ None → says n (line ++ (10 ∷ rest)) ≡ bad_at n
says-bad n line rest h other event =
    let whole : said_by_line line_event n line (pieces_of rest) (says (n + 1) rest) ≡ bad_at n = rw (other, event) refl in
    says-line n line rest h ∙ whole

-- No whole line.
pub says-none : (n : ℕ) (text : List ℕ) → HasNoFeed text → says n text ≡ bad_at n
unfolding said_from
says-none n text h = rw (pieces-one text h) refl

-- The line `end`, and nothing behind it.
pub says-end : (n : ℕ) → says n end_text ≡ record { events = []; bad = None }
unfolding said_from
says-end n = refl

behind_by : (b : Bool) (n c : ℕ) (pieces : List (List ℕ)) → HasPiece pieces → said_at_end n (cond b ([] ∷ pieces) (onto_first c pieces)) ≡ bad_at (n + 1)
behind_by true n c pieces p = rw (p.1.1) refl
behind_by false n c pieces p = rw (p.1.1) refl

-- Something behind the line `end`.
pub says-behind : (n c : ℕ) (cs : List ℕ) → says n (end_text ++ (c ∷ cs)) ≡ bad_at (n + 1)
unfolding said_from
says-behind n c cs =
    let p = has_piece (c ∷ cs) in
    let first : says n (end_text ++ (c ∷ cs)) ≡ said_at_end n (p.0 ∷ p.1.0) = rw (p.1.1) refl in
    first ∙ ap (said_at_end n) (sym p.1.1) ∙ behind_by (eqb c 10) n c (pieces_of cs) (has_piece cs)

-- A text has no line feed, or begins with a line.
abbrev pub Cut : List ℕ → Type 0
Cut text = HasNoFeed text ⊎ ((line : List ℕ) × ((rest : List ℕ) × ((text ≡ line ++ (10 ∷ rest)) × HasNoFeed line)))

no_feed_more : (c : ℕ) (cs : List ℕ) → c ≢ 10 → HasNoFeed cs → HasNoFeed (c ∷ cs)
no_feed_more c cs h all zero lt = h
no_feed_more c cs h all (suc k) lt = all k (omega arith)

cut_more : (c : ℕ) (cs : List ℕ) → c ≢ 10 → Cut cs → Cut (c ∷ cs)
cut_more c cs h (inl none) = inl (no_feed_more c cs h none)
cut_more c cs h (inr p) = inr (c ∷ p.0, (p.1.0, (ap (λ l. c ∷ l) p.1.1.0, no_feed_more c p.0 h p.1.1.1)))

pub cut : (text : List ℕ) → Cut text
cut [] = inl (λ k lt. absurd (omega arith))
cut (c ∷ cs) = elim (eqb c 10) as (λ b. eqb c 10 ≡ b → Cut (c ∷ cs)) [
  | true ↦ λ e. inr ([], (cs, (ap (λ d. d ∷ cs) (eqb-true c 10 e), λ k lt. absurd (omega arith))))
  | false ↦ λ e. cut_more c cs (λ same. cc) (cut cs)
] refl

at_feed : (line rest : List ℕ) (m : ℕ) → length line < m → HasNoFeed (take m (line ++ (10 ∷ rest))) → ⊥
at_feed [] rest zero lt h = absurd (omega arith)
at_feed [] rest (suc m) lt h = h 0 (omega arith) refl
at_feed (c ∷ cs) rest zero lt h = absurd (omega arith)
at_feed (c ∷ cs) rest (suc m) lt h = at_feed cs rest m (omega arith) (rest_no c (take m (cs ++ (10 ∷ rest))) h)

pub at_feed_of : (text line rest : List ℕ) (m : ℕ) → text ≡ line ++ (10 ∷ rest) → length line < m → HasNoFeed (take m text) → ⊥
at_feed_of text line rest m e lt h = let P : List ℕ → Type 0 = λ t. HasNoFeed (take m t) in at_feed line rest m lt (subst P e h)

pub too_long : (line : List ℕ) → most_line < length line → line_event line ≡ None
too_long line h = let over : leb (length line) most_line ≡ false = grind (arith, nat_tests) in rw over refl

not_end : (line : List ℕ) → most_line < length line → bytes_eq line (codes "end") ≡ false
not_end line h = elim (bytes_eq line (codes "end")) as (λ b. bytes_eq line (codes "end") ≡ b → b ≡ false) [
  | true ↦ λ e. let same : line ≡ codes "end" = (bytes_eq-Decides line (codes "end")).0 e in absurd (omega (arith, ap length same))
  | false ↦ λ e. refl
] refl

-- A line that is too long.
pub says-long : (n : ℕ) (text : List ℕ) → HasNoFeed (take (most_line + 1) text) → says n text ≡ bad_at n
says-long n text h = elim (cut text) [
  | inl none ↦ says-none n text none
  | inr p ↦
      let long : most_line < length p.0 = elim (cases_lt most_line (length p.0)) [
        | inl lt ↦ lt
        | inr le ↦ absurd (at_feed_of text p.0 p.1.0 (most_line + 1) p.1.1.0 (omega arith) h)
      ] in
      ap (says n) p.1.1.0 ∙ says-bad n p.0 p.1.0 p.1.1.1 (not_end p.0 long) (too_long p.0 long)
]

-- What isn't handed out

-- Bytes that were taken behind it.
pub unread-more : (ended : Bool) (line line' rest more : List ℕ) → unread ended false line rest ++ more ≡ unread ended false line' (rest ++ more)
unfolding unread
unread-more ended line line' rest more = append_assoc (if ended then end_text else []) rest more

-- A line that was found in it.
pub unread-found : (ended : Bool) (line line' rest : List ℕ) → unread ended false line' (line ++ (10 ∷ rest)) ≡ unread ended true line rest
unfolding unread
unread-found ended line line' rest = ap (λ l. (if ended then end_text else []) ++ l) (sym (append_assoc line (10 ∷ []) rest))

-- The line `end` was found.
pub unread-end : (line line' rest : List ℕ) → line ≡ codes "end" → unread false true line rest ≡ unread true false line' rest
unfolding unread
unread-end line line' rest e = ap (λ l. (l ++ (10 ∷ [])) ++ rest) e

-- Something behind the line `end`.
pub says-more : (n : ℕ) (text tail : List ℕ) → 0 < length text → says n ((end_text ++ text) ++ tail) ≡ bad_at (n + 1)
says-more n [] tail h = absurd (omega arith)
says-more n (c ∷ cs) tail h = says-behind n c (cs ++ tail)
