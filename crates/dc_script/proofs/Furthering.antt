-- What a reader gives further.
use Rattle.std.proofs.Common.{◌≡◌, ◌≢◌, ℕ, zero, suc, ◌+◌, ◌<◌, ◌≤◌, Bool, true, false, eqb, leb, bytes_eq, cond, ◌||◌, if◌then◌else◌, List, [], ◌∷◌, ◌++◌, length, take, codes, Option, Some, None, refl, sym, ◌∙◌, ap, ◌⊎◌, inl, inr, arith, append_assoc, subst}
use Rattle.std.proofs.lemmas.Bool.{eqb-true, cases_lt}
use Rattle.std.proofs.lemmas.Bool.Decides.{nat_tests}
use Rattle.std.proofs.lemmas.Slice.Eq.{bytes_eq-Decides}
use Rattle.dc_model.specs.Event.{Event, IsEvent}
use Rattle.dc_script.specs.Script.{most_line, event_of_line, event_said, behind_at}
use Rattle.dc_script.specs.Read.{line_event, end_text, unread, ReadOff}
use Rattle.dc_script.specs.World.{Recorded, Passed, Passed-gathered}
use Rattle.dc_event.specs.History.{gathered_by, events_in}
use Rattle.dc_script.specs.Lines.{Held}
use Rattle.dc_script.specs.Further.{next_event, at_moment, HasNoLine, Holds, Gives, event_if}
use Rattle.dc_script.proofs.ReadLemmas.{HasNoFeed, pieces-line, pieces-one, has_piece, cut, at_feed_of, too_long, unread-found}

-- The first line of a text.
pub next_of_line : (line rest : List ℕ) → HasNoFeed line → next_event (line ++ (10 ∷ rest)) ≡ line_event line
next_of_line line rest h =
    let p = has_piece rest in
    rw (pieces-line line rest h, p.1.1) refl

next_none : (text : List ℕ) → HasNoFeed text → next_event text ≡ None
next_none text h = rw (pieces-one text h) refl

next_long : (text : List ℕ) → most_line < length text → HasNoFeed (take (most_line + 1) text) → next_event text ≡ None
next_long text far h = elim (cut text) [
  | inl none ↦ next_none text none
  | inr p ↦
      let long : most_line < length p.0 = elim (cases_lt most_line (length p.0)) [
        | inl lt ↦ lt
        | inr le ↦ absurd (at_feed_of text p.0 p.1.0 (most_line + 1) p.1.1.0 (omega arith) h)
      ] in
      ap next_event p.1.1.0 ∙ next_of_line p.0 p.1.0 p.1.1.1 ∙ too_long p.0 long
]

no_line : (text : List ℕ) → HasNoLine text → next_event text ≡ None
no_line text (inl one) = next_none text one
no_line text (inr p) = next_long text p.0 p.1

-- What a reader's state has next.

line_next : (line rest : List ℕ) → HasNoFeed line → next_event (unread false true line rest) ≡ line_event line
unfolding unread
line_next line rest h = ap next_event (append_assoc line (10 ∷ []) rest) ∙ next_of_line line rest h

rest_next : (line rest : List ℕ) → HasNoLine rest → next_event (unread false false line rest) ≡ None
unfolding unread
rest_next line rest h = no_line rest h

end_one : HasNoFeed (codes "end")
end_one zero lt = λ e. cc
end_one (suc zero) lt = λ e. cc
end_one (suc (suc zero)) lt = λ e. cc
end_one (suc (suc (suc k))) lt = absurd (omega (arith, lt))

end_no_event : line_event (codes "end") ≡ None
unfolding event_of_line event_said behind_at
end_no_event = refl

end_next : (found : Bool) (line rest : List ℕ) → next_event (unread true found line rest) ≡ None
unfolding unread
end_next found line rest =
    let behind = (if found then line ++ (10 ∷ []) else []) ++ rest in
    ap next_event (append_assoc (codes "end") (10 ∷ []) behind) ∙ next_of_line (codes "end") behind end_one ∙ end_no_event

next_found : (ended found : Bool) (line rest : List ℕ) → ended ≡ false → found ≡ true → HasNoFeed line → next_event (unread ended found line rest) ≡ line_event line
next_found ended found line rest d f h =
    let P : Bool → Type 0 = λ b. next_event (unread b found line rest) ≡ line_event line in
    let Q : Bool → Type 0 = λ b. next_event (unread false b line rest) ≡ line_event line in
    subst P (sym d) (subst Q (sym f) (line_next line rest h))

pub next_missing : (ended found : Bool) (line rest : List ℕ) → ended ≡ false → found ≡ false → HasNoLine rest → next_event (unread ended found line rest) ≡ None
next_missing ended found line rest d f h =
    let P : Bool → Type 0 = λ b. next_event (unread b found line rest) ≡ None in
    let Q : Bool → Type 0 = λ b. next_event (unread false b line rest) ≡ None in
    subst P (sym d) (subst Q (sym f) (rest_next line rest h))

pub next_ended : (ended found : Bool) (line rest : List ℕ) → ended ≡ true → next_event (unread ended found line rest) ≡ None
next_ended ended found line rest d =
    let P : Bool → Type 0 = λ b. next_event (unread b found line rest) ≡ None in
    subst P (sym d) (end_next found line rest)

-- Events of a moment.

pub at_none : (now : ℕ) (o : Option Event) → o ≡ None → at_moment (Some now) o ≡ None
at_none now o e = ap (at_moment (Some now)) e

pub at_same : (now : ℕ) (o : Option Event) (e : Event) → o ≡ Some e → e.now ≡ now → at_moment (Some now) o ≡ Some e
at_same now o e is same =
    let yes : eqb e.now now ≡ true = grind (arith, nat_tests) in
    ap (at_moment (Some now)) is ∙ ap (λ b. cond b (Some e) None) yes

pub at_other : (now : ℕ) (o : Option Event) (e : Event) → o ≡ Some e → e.now ≢ now → at_moment (Some now) o ≡ None
at_other now o e is other =
    let no : eqb e.now now ≡ false = grind (arith, nat_tests) in
    ap (at_moment (Some now)) is ∙ ap (λ b. cond b (Some e) None) no

-- The event of a line that was found.
chosen : (b : Bool) (o p : Option Event) → b ≡ true → o ≡ p → cond b o None ≡ p
chosen true o p e h = h
chosen false o p e h = cc

line_says_so : (line : List ℕ) (o : Option Event) → length line ≤ most_line → event_of_line line ≡ o → line_event line ≡ o
line_says_so line o short says =
    let within : leb (length line) most_line ≡ true = grind (arith, nat_tests) in
    chosen (leb (length line) most_line) (event_of_line line) o within says

pub found_says : (ended found : Bool) (line rest : List ℕ) (o : Option Event) → ended ≡ false → found ≡ true → HasNoFeed line → length line ≤ most_line → event_of_line line ≡ o
    → next_event (unread ended found line rest) ≡ o
found_says ended found line rest o d f one short says = next_found ended found line rest d f one ∙ line_says_so line o short says

-- The line `end` is none of an event.
end_says_none : event_of_line (codes "end") ≡ None
unfolding event_of_line event_said behind_at
end_says_none = refl

pub not_end : (line : List ℕ) (e : Event) → event_of_line line ≡ Some e → bytes_eq line (codes "end") ≡ false
not_end line e says = elim (bytes_eq line (codes "end")) as (λ b. bytes_eq line (codes "end") ≡ b → b ≡ false) [
  | true ↦ λ is.
      let same : line ≡ codes "end" = (bytes_eq-Decides line (codes "end")).0 is in
      let none : Some e ≡ None = sym says ∙ ap event_of_line same ∙ end_says_none in
      cc
  | false ↦ λ is. refl
] refl

-- A line is looked for among the bytes that are held.

unread_rest : (ended : Bool) (line line' rest : List ℕ) → unread ended false line rest ≡ unread ended false line' rest
unfolding unread
unread_rest ended line line' rest = refl

held_false : (ended whole : Bool) (line rest : List ℕ) (new : Held) → Holds whole rest new → unread ended whole new.line new.rest ≡ unread ended false line rest
held_false ended true line rest new h = sym (ap (unread ended false line) h.0 ∙ unread-found ended new.line line new.rest)
held_false ended false line rest new h = unread_rest ended new.line line new.rest ∙ ap (unread ended false line) h.0

pub held_unread : (ended found whole : Bool) (line rest : List ℕ) (new : Held) → found ≡ false → Holds whole rest new → unread ended whole new.line new.rest ≡ unread ended found line rest
held_unread ended found whole line rest new f h =
    let P : Bool → Type 0 = λ b. unread ended whole new.line new.rest ≡ unread ended b line rest in
    subst P (sym f) (held_false ended whole line rest new h)

pub held_none : (whole : Bool) (rest : List ℕ) (new : Held) → Holds whole rest new → whole ≡ false → HasNoLine new.rest
held_none true rest new h e = cc
held_none false rest new h e = subst HasNoLine (sym h.0) h.1

-- Nothing is given of a text that has no event next.
pub gives_none : (now : ℕ) (text : List ℕ) (e e' : Event) → next_event text ≡ None → e' ≡ e → Gives false now text e e'
gives_none now text e e' none same = (at_none now (next_event text) none, same)

-- What passes where a further event is asked for.

if_gathered : (more : Bool) (e : Event) → event_if more e ≡ events_in (gathered_by more e)
if_gathered true e = refl
if_gathered false e = refl

module _ {S K : Type 0} (took : S → List ℕ → S → Type 0) (took_none : (a : S) → took a [] a)
    (took_both : (a b c : S) (xs ys : List ℕ) → took a xs b → took b ys c → took a (xs ++ ys) c) (missed : S → S → Type 0) (source_faults : S → ℕ)
    (gained : K → List ℕ → K → Type 0) (gained_none : (a : K) → gained a [] a)
    (gained_both : (a b c : K) (xs ys : List ℕ) → gained a xs b → gained b ys c → gained a (xs ++ ys) c) (refused : K → K → Type 0) (sink_faults : K → ℕ) where
  pub further_passed : (old : Recorded S K) (source : S) (unread : List ℕ) (lines start : ℕ) (failed more : Bool) (e : Event)
      → ReadOff took old.source old.unread old.lines (event_if more e) source unread lines → source ≡ old.source → start ≡ old.source_start → failed ≡ old.read_failed → old.read_failed ≡ false
      → Passed took missed source_faults gained refused sink_faults old (gathered_by more e) (record old { source = source; unread = unread; lines = lines; source_start = start; read_failed = failed })
  further_passed old source unread lines start failed more e read same starts fails unfailed =
      let Is : Recorded S K → Type 0 = Passed took missed source_faults gained refused sink_faults old (gathered_by more e) in
      let read' : ReadOff took old.source old.unread old.lines (events_in (gathered_by more e)) old.source unread lines =
      subst (λ xs. ReadOff took old.source old.unread old.lines xs old.source unread lines) (if_gathered more e)
      (subst (λ s. ReadOff took old.source old.unread old.lines (event_if more e) s unread lines) same read) in
      let passed = Passed-gathered took took_none took_both missed source_faults gained gained_none gained_both refused sink_faults old unread lines more e read' unfailed in
      subst (λ f. Is (record old { source = source; unread = unread; lines = lines; source_start = start; read_failed = f })) (sym fails)
      (subst (λ n. Is (record old { source = source; unread = unread; lines = lines; source_start = n })) (sym starts)
      (subst (λ s. Is (record old { source = s; unread = unread; lines = lines })) (sym same) passed))
