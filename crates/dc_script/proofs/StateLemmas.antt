-- A reader's states, with what is known of their flags.
use Rattle.std.proofs.Common.{◌≡◌, ℕ, ◌+◌, ◌<◌, ◌≤◌, ◌^◌, Bool, true, false, bytes_eq, cond, leb, if◌then◌else◌, List, [], ◌∷◌, ◌++◌, length, take, codes, Option, Some, None, refl, sym, ◌∙◌, ap, arith, length-append, subst}
use Rattle.std.proofs.lemmas.Bool.Decides.{nat_tests}
use Rattle.std.specs.Io.KnownBytes.{IsAtEnd}
use Rattle.dc_model.specs.Event.{Event}
use Rattle.dc_event.specs.Answers.{heard_by}
use Rattle.dc_event.specs.declared.answers.Heard.{Heard}
use Rattle.dc_event.specs.declared.answers.Heard.TheVariants as answer
use Rattle.dc_script.specs.Script.{most_line, event_of_line}
use Rattle.dc_script.specs.Read.{line_event, unread, ReadOff}
use Rattle.dc_script.specs.World.{IsOver, Breaks, NoEvent, Answered, SaysNoMore, IfFailed}
use Rattle.dc_script.proofs.ReadLemmas.{HasNoFeed, unread-end}
use Rattle.dc_script.proofs.BreakLemmas.{no_more, Breaks-behind, IsOver-end, Breaks-line, Breaks-long, Breaks-short, ReadOff-event}

-- Behind the line `end`

pub Breaks-rest : (left : Option (List ℕ)) (ended found : Bool) (line rest : List ℕ) (lines k : ℕ) → ended ≡ true → 0 < length rest
    → (lines + 1 + 1 < 2 ^ 64 → k ≡ lines + 1 + 1) → Breaks left (unread ended found line rest) lines k
Breaks-rest left ended found line rest lines k e some number =
    let front = if found then line ++ (10 ∷ []) else [] in
    let P : Bool → Type 0 = λ b. Breaks left (unread b found line rest) lines k in
    subst P (sym e) (Breaks-behind left found line rest lines k (omega (arith, some, length-append front rest)) number)

pub Breaks-next : (left : Option (List ℕ)) (ended found : Bool) (line rest : List ℕ) (lines k : ℕ) → ended ≡ true → found ≡ true
    → (lines + 1 + 1 < 2 ^ 64 → k ≡ lines + 1 + 1) → Breaks left (unread ended found line rest) lines k
Breaks-next left ended found line rest lines k e f number =
    let P : Bool → Type 0 = λ b. Breaks left (unread b found line rest) lines k in
    let Q : Bool → Type 0 = λ b. Breaks left (unread true b line rest) lines k in
    let some : 0 < length ((line ++ (10 ∷ [])) ++ rest) = omega (arith, length-append (line ++ (10 ∷ [])) rest, length-append line (10 ∷ [])) in
    subst P (sym e) (subst Q (sym f) (Breaks-behind left true line rest lines k some number))

pub IsOver-here : (ended found : Bool) (line rest : List ℕ) → ended ≡ true → found ≡ false → length rest ≡ 0 → IsOver (unread ended found line rest)
IsOver-here ended found line rest e f none =
    let P : Bool → Type 0 = λ b. IsOver (unread b found line rest) in
    let Q : Bool → Type 0 = λ b. IsOver (unread true b line rest) in
    subst P (sym e) (subst Q (sym f) (IsOver-end line rest none))

-- Before it

pub Breaks-here : (left : Option (List ℕ)) (ended found : Bool) (line rest : List ℕ) (lines k : ℕ) → ended ≡ false → found ≡ true → HasNoFeed line
    → bytes_eq line (codes "end") ≡ false → event_of_line line ≡ None → (lines + 1 + 0 < 2 ^ 64 → k ≡ lines + 1 + 0) → Breaks left (unread ended found line rest) lines k
Breaks-here left ended found line rest lines k e f one other none number =
    let P : Bool → Type 0 = λ b. Breaks left (unread b found line rest) lines k in
    let Q : Bool → Type 0 = λ b. Breaks left (unread false b line rest) lines k in
    subst P (sym e) (subst Q (sym f) (Breaks-line left line rest lines k one other (unsaid line none) number))
  where
    choice : (b : Bool) (o : Option Event) → o ≡ None → cond b o None ≡ None
    choice true o h = h
    choice false o h = refl

    unsaid : (line : List ℕ) → event_of_line line ≡ None → line_event line ≡ None
    unsaid line h = choice (leb (length line) most_line) (event_of_line line) h

pub Breaks-far : (left : Option (List ℕ)) (ended found : Bool) (line rest : List ℕ) (lines k m : ℕ) → m ≡ most_line + 1 → ended ≡ false → found ≡ false
    → most_line < length rest → HasNoFeed (take m rest) → (lines + 1 + 0 < 2 ^ 64 → k ≡ lines + 1 + 0) → Breaks left (unread ended found line rest) lines k
Breaks-far left ended found line rest lines k m same e f long one number =
    let P : Bool → Type 0 = λ b. Breaks left (unread b found line rest) lines k in
    let Q : Bool → Type 0 = λ b. Breaks left (unread false b line rest) lines k in
    subst P (sym e) (subst Q (sym f) (Breaks-long left line rest lines k m same long one number))

pub Breaks-open : (left : Option (List ℕ)) (ended found : Bool) (line rest : List ℕ) (lines k : ℕ) → ended ≡ false → found ≡ false
    → HasNoFeed rest → IsAtEnd left → (lines + 1 + 0 < 2 ^ 64 → k ≡ lines + 1 + 0) → Breaks left (unread ended found line rest) lines k
Breaks-open left ended found line rest lines k e f one end number =
    let P : Bool → Type 0 = λ b. Breaks left (unread b found line rest) lines k in
    let Q : Bool → Type 0 = λ b. Breaks left (unread false b line rest) lines k in
    subst P (sym e) (subst Q (sym f) (Breaks-short left line rest lines k one end number))

pub ReadOff-line : {S : Type 0} (took : S → List ℕ → S → Type 0) → ((a : S) → took a [] a) → (a : S) (ended found : Bool) (line line' rest : List ℕ) (lines last : ℕ) (e : Event)
    → ended ≡ false → found ≡ true → HasNoFeed line → length line ≤ most_line → bytes_eq line (codes "end") ≡ false → event_of_line line ≡ Some e
    → (lines + 1 < 2 ^ 64 → last ≡ lines + 1)
    → ReadOff took a (unread ended found line rest) lines (e ∷ []) a (unread ended false line' rest) last
ReadOff-line took none a ended found line line' rest lines last e d f one short other event number =
    let P : Bool → Type 0 = λ b. ReadOff took a (unread b found line rest) lines (e ∷ []) a (unread b false line' rest) last in
    let Q : Bool → Type 0 = λ b. ReadOff took a (unread false b line rest) lines (e ∷ []) a (unread false false line' rest) last in
    let within : leb (length line) most_line ≡ true = grind (arith, nat_tests) in
    subst P (sym d) (subst Q (sym f) (ReadOff-event took none a line line' rest lines last e one other (chosen (leb (length line) most_line) (event_of_line line) (Some e) within event) number))
  where
    chosen : (b : Bool) (o p : Option Event) → b ≡ true → o ≡ p → cond b o None ≡ p
    chosen true o p e h = h
    chosen false o p e h = cc

-- Answers

pub quiet : (a : Heard) (e : Event) (over failed : Type 0) (breaks : ℕ → Type 0) → NoEvent a over breaks failed → Answered a e over breaks failed
quiet answer.Event e over failed breaks h = absurd h
quiet answer.End e over failed breaks h = h
quiet answer.Failed e over failed breaks h = h
quiet (answer.Bad line) e over failed breaks h = h

pub unheard : (a : Heard) (e : Event) (over failed : Type 0) (breaks : ℕ → Type 0) → NoEvent a over breaks failed → heard_by a e ≡ []
unheard answer.Event e over failed breaks h = absurd h
unheard answer.End e over failed breaks h = refl
unheard answer.Failed e over failed breaks h = refl
unheard (answer.Bad line) e over failed breaks h = refl

pub Answered-from : (a : Heard) (e : Event) (over failed failed' : Type 0) (breaks : ℕ → Type 0) → (failed → failed') → Answered a e over breaks failed → Answered a e over breaks failed'
Answered-from answer.Event e over failed failed' breaks f h = h
Answered-from answer.End e over failed failed' breaks f h = h
Answered-from answer.Failed e over failed failed' breaks f h = f h
Answered-from (answer.Bad line) e over failed failed' breaks f h = h

-- The line `end` was read, and then nothing was handed out.
pub ReadOff-behind : {S : Type 0} (took : S → List ℕ → S → Type 0) (a b : S) (ended found : Bool) (line rest after : List ℕ) (lines last : ℕ) (r : Heard) (e : Event)
    (over failed : Type 0) (breaks : ℕ → Type 0) → ended ≡ false → found ≡ true → line ≡ codes "end" → NoEvent r over breaks failed
    → ReadOff took a (unread true false line rest) lines [] b after last → ReadOff took a (unread ended found line rest) lines (heard_by r e) b after last
ReadOff-behind took a b ended found line rest after lines last r e over failed breaks d f end none p =
    let same : unread true false line rest ≡ unread false true line rest = sym (unread-end line line rest end) in
    let P : Bool → Type 0 = λ x. ReadOff took a (unread x found line rest) lines (heard_by r e) b after last in
    let Q : Bool → Type 0 = λ x. ReadOff took a (unread false x line rest) lines (heard_by r e) b after last in
    let R : List ℕ → Type 0 = λ t. ReadOff took a t lines (heard_by r e) b after last in
    let T : List Event → Type 0 = λ es. ReadOff took a (unread true false line rest) lines es b after last in
    subst P (sym d) (subst Q (sym f) (subst R same (subst T (sym (unheard r e over failed breaks none)) p)))

-- Nothing was handed out.
pub ReadOff-quiet : {S : Type 0} (took : S → List ℕ → S → Type 0) (a b : S) (before after : List ℕ) (lines last : ℕ) (r : Heard) (e : Event)
    (over failed : Type 0) (breaks : ℕ → Type 0) → NoEvent r over breaks failed → ReadOff took a before lines [] b after last → ReadOff took a before lines (heard_by r e) b after last
ReadOff-quiet took a b before after lines last r e over failed breaks none p =
    let T : List Event → Type 0 = λ es. ReadOff took a before lines es b after last in
    subst T (sym (unheard r e over failed breaks none)) p

-- The rest is the text that was looked through.
pub long-rest : (m : ℕ) (rest bytes : List ℕ) → rest ≡ bytes → m < length bytes → m < length rest
long-rest m rest bytes e h = omega (arith, ap length e)

pub one-rest : (m : ℕ) (rest bytes : List ℕ) → rest ≡ bytes → HasNoFeed (take m bytes) → HasNoFeed (take m rest)
one-rest m rest bytes e h = let P : List ℕ → Type 0 = λ t. HasNoFeed (take m t) in subst P (sym e) h

pub one_same : (rest bytes : List ℕ) → rest ≡ bytes → HasNoFeed bytes → HasNoFeed rest
one_same rest bytes e h = let P : List ℕ → Type 0 = λ t. HasNoFeed t in subst P (sym e) h

-- No whole line is held.
pub SaysNoMore-here : (ended found : Bool) (line rest : List ℕ) → found ≡ false → HasNoFeed rest → SaysNoMore (unread ended found line rest)
SaysNoMore-here ended found line rest f one = let P : Bool → Type 0 = λ b. SaysNoMore (unread ended b line rest) in subst P (sym f) (no_more ended line rest one)

pub IfFailed-from : (a : Heard) (failed other other' : Type 0) → (other → other') → IfFailed a failed other → IfFailed a failed other'
IfFailed-from answer.Event failed other other' f h = f h
IfFailed-from answer.End failed other other' f h = f h
IfFailed-from answer.Failed failed other other' f h = h
IfFailed-from (answer.Bad line) failed other other' f h = f h

-- A read fails only in a call that answers so.
pub stopped_now : (a : Heard) (now before : Bool) (stopped : Type 0) → IfFailed a stopped (now ≡ before) → before ≡ false → now ≡ true → stopped
stopped_now answer.Event now before stopped h e f = cc
stopped_now answer.End now before stopped h e f = cc
stopped_now answer.Failed now before stopped h e f = h
stopped_now (answer.Bad line) now before stopped h e f = cc

pub IfFailed-then : (a : Heard) (failed : Type 0) (x y z : Bool) → y ≡ z → IfFailed a failed (x ≡ y) → IfFailed a failed (x ≡ z)
IfFailed-then a failed x y z e h = IfFailed-from a failed (x ≡ y) (x ≡ z) (λ d. d ∙ e) h
