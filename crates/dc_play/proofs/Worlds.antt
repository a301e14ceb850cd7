-- What serving an engine in a recorded world comes to.
use Rattle.std.proofs.Common.{◌≡◌, ℕ, ◌+◌, ◌<◌, ◌≤◌, ◌^◌, Bool, true, false, not, List, [], ◌++◌, length, ap, sym, ◌∙◌, arith, Option, subst, inl, inr, ◌⊎◌}
use Rattle.std.specs.Io.KnownBytes.{IsAtEnd}
use Rattle.std.proofs.lemmas.List.{append-nil}
use Rattle.dc_model.specs.Draws.{draws_of}
use Rattle.dc_model.specs.Event.{Event, Action}
use Rattle.dc_draws.specs.Drawn.{Drawn}
use Rattle.dc_engine.specs.Automaton.{Automaton, actions_of}
use Rattle.dc_script.specs.Head.{MayFollow}
use Rattle.dc_script.specs.Script.{bad_at}
use Rattle.dc_script.specs.Read.{after_events, says}
use Rattle.dc_script.specs.Text.{text_of}
use Rattle.dc_script.specs.World.{Recorded, HandedOut, Wrote, IsOver, Breaks, SaysNoMore}
use Rattle.dc_script.specs.Written.{Written}
use Rattle.dc_script.proofs.HeadLemmas.{none_follows}
use Rattle.dc_serve.specs.Serve.{Ends, Justified, count_served}
use Rattle.dc_serve.specs.declared.Served.{Served}
use Rattle.dc_serve.specs.declared.Served.TheVariants as served
use Rattle.dc_play.specs.declared.played.Played.{Played}
use Rattle.dc_play.specs.Playing.{run_of, outcome_of, Keeps, answer_from}
use Rattle.dc_play.proofs.Runs.{Fronts, run_drawn}
use Rattle.dc_play.proofs.Promises.{Stopped, Front, front_of, keeps}

-- With nothing behind a text, it says the same.
says_alone : (n : ℕ) (text tail : List ℕ) → tail ≡ [] → says n (text ++ tail) ≡ says n text
says_alone n text tail e = ap (λ t. says n (text ++ t)) e ∙ ap (says n) (append-nil text)

-- The line that breaks the script.
broken_by : (left : Option (List ℕ)) (text tail : List ℕ) (n ahead : ℕ)
    → ((t : List ℕ) (m : ℕ) → says m (text ++ t) ≡ bad_at (m + ahead)) ⊎ (IsAtEnd left × ((m : ℕ) → says m text ≡ bad_at (m + ahead)))
    → MayFollow left tail → says n (text ++ tail) ≡ bad_at (n + ahead)
broken_by left text tail n ahead (inl f) follows = f tail n
broken_by left text tail n ahead (inr f) follows = says_alone n text tail (none_follows left tail f.0 follows) ∙ f.1 n

broken_line : (left : Option (List ℕ)) (text tail : List ℕ) (lines k next : ℕ) → Breaks left text lines k → lines + 1 ≡ next → next < 2 ^ 62 → MayFollow left tail
    → says next (text ++ tail) ≡ bad_at k
broken_line left text tail lines k next b e few follows =
    let near = b.near in
    let number : k ≡ lines + 1 + b.ahead = b.number (omega (arith, near, e, few)) in
    let same : next + b.ahead ≡ k = omega (arith, number, e) in
    broken_by left text tail next b.ahead b.bad follows ∙ ap bad_at same

-- What the answer of the loop says of what is left.
stopped : (answer : Served) (count limit : ℕ) (left : Option (List ℕ)) (text tail : List ℕ) (lines next : ℕ) (failed : Bool) → Ends answer false count limit
    → Justified answer (IsAtEnd left × IsOver text × (failed ≡ false)) (λ k. Breaks left text lines k × (failed ≡ false))
    → lines + 1 ≡ next → next < 2 ^ 62 → MayFollow left tail → Stopped answer count limit (says next (text ++ tail))
stopped served.Finished count limit left text tail lines next failed ends just e few follows = let never : false ≡ true = ends.0 in cc
stopped served.Spent count limit left text tail lines next failed ends just e few follows = ends.1
stopped served.Ended count limit left text tail lines next failed ends just e few follows =
    (ends.1, says_alone next text tail (none_follows left tail just.0 follows) ∙ just.1 next)
stopped served.Failed count limit left text tail lines next failed ends just e few follows = ends.1
stopped (served.Bad k) count limit left text tail lines next failed ends just e few follows =
    (ends.1, broken_line left text tail lines k next just.0 e few follows)

count_within : (answer : Served) (count limit : ℕ) → Ends answer false count limit → count ≤ limit
count_within served.Finished count limit h = h.1
count_within served.Spent count limit h = let e = h.1 in omega (arith, e)
count_within served.Ended count limit h = let e = h.1 in omega (arith, e)
count_within served.Failed count limit h = let e = h.1 in omega (arith, e)
count_within (served.Bad k) count limit h = let e = h.1 in omega (arith, e)

-- Where the world failed, its count isn't zero.
pub some_faults : (answer : Served) (now : ℕ) → now ≡ count_served answer 0 → answer ≡ served.Failed → 0 < now
some_faults served.Finished now count e = cc
some_faults served.Spent now count e = cc
some_faults served.Ended now count e = cc
some_faults served.Failed now count e = omega (arith, count)
some_faults (served.Bad k) now count e = cc

-- Where no whole line of an event is left, the events that were handed out are those of all that was read.
handed_all : (n next : ℕ) (rest bytes left : List ℕ) (events : List Event) → says n (rest ++ (bytes ++ [])) ≡ after_events events (says next (left ++ []))
    → SaysNoMore left → (says n (rest ++ bytes)).events ≡ events
handed_all n next rest bytes left events read none =
    ap (λ b. (says n (rest ++ b)).events) (sym (append-nil bytes)) ∙ ap (λ s. s.events) read
    ∙ ap (λ l. events ++ (says next l).events) (append-nil left) ∙ ap (λ es. events ++ es) (none next) ∙ append-nil events

-- What the sink gained.
pub written : {S K M : Type 0} (gained : K → List ℕ → K → Type 0) (refused : K → K → Type 0) (faults : K → ℕ) (old new : Recorded S K) (m : Automaton M) (seed : List ℕ) (drawn : Drawn) (state : M) (events : List Event) (sink sink' : K)
    → Wrote gained refused faults old (m.opening state ++ actions_of m (draws_of drawn.seed) drawn.given state events) new
    → drawn ≡ record { seed = seed; given = 0 } → old.write_failed ≡ false → old.sink ≡ sink → sink' ≡ new.sink
    → (front : List ℕ) × gained sink front sink' × Front new.write_failed front (text_of (run_of m (draws_of seed) state events))
written gained refused faults old new m seed drawn state events sink sink' w words fine from to =
    let run = run_of m (draws_of seed) state events in
    let whole = subst (λ b. Written gained b new.write_failed old.sink (text_of run) new.sink) fine
    (subst (λ xs. Written gained old.write_failed new.write_failed old.sink (text_of xs) new.sink) (run_drawn m state seed drawn events words) w.written) in
    let front = front_of gained new.write_failed old.sink new.sink (text_of run) whole in
    (front.0, subst (λ k. gained sink front.0 k) (sym to) (subst (λ k. gained k front.0 new.sink) from front.1), front.2)

-- Events that were played, behind a head of so many lines.
pub played : {S K : Type 0} (took : S → List ℕ → S → Type 0) (refused : S → S → Type 0) (faults : S → ℕ) (left : S → Option (List ℕ)) (run : List Event → List Action) (old new : Recorded S K)
    (answer : Served) (limit : ℕ) (events : List Event) (lines : ℕ) (rest front : List ℕ) (source : S) (wrote : Bool) (result : Played)
    → Fronts run → (heard : HandedOut took refused faults old events new)
    → Ends answer false (length events) limit
    → Justified answer (IsAtEnd (left new.source) × IsOver new.unread × (new.write_failed ≡ false)) (λ k. Breaks (left new.source) new.unread new.lines k × (new.write_failed ≡ false))
    → new.faults ≡ count_served answer 0
    → Front new.write_failed front (text_of (run events))
    → old.lines ≡ lines → old.unread ≡ rest → old.read_failed ≡ false → source ≡ new.source → wrote ≡ not new.write_failed
    → (wrote ≡ true → 0 < new.faults → new.read_failed ≡ true) → result ≡ answer_from answer wrote → limit ≤ 2 ^ 60 → lines < 2 ^ 32
    → (tail : List ℕ) → MayFollow (left source) tail
    → Keeps (outcome_of run limit (says (lines + 1) (rest ++ (heard.heard.bytes ++ tail)))) (text_of (run (says (lines + 1) (rest ++ heard.heard.bytes)).events)) front result
played took refused faults left run old new answer limit events lines rest front source wrote result fronts heard ends just count text at_lines unread unfailed new_source all cause how few short tail follows =
    let next = lines + 1 + length events in
    let bytes = heard.heard.bytes in
    let whole = text_of (run (says (lines + 1) (rest ++ bytes)).events) in
    let follows' : MayFollow (left new.source) tail = subst (λ s. MayFollow (left s) tail) new_source follows in
    let most = count_within answer (length events) limit ends in
    let counted : new.lines ≡ old.lines + length events = heard.heard.counted (omega (arith, most, few, short, at_lines)) in
    let at_line : new.lines + 1 ≡ next = omega (arith, counted, at_lines) in
    let stop = stopped answer (length events) limit (left new.source) new.unread tail new.lines next new.write_failed ends just at_line (omega (arith, most, few, short)) follows' in
    let read : (t : List ℕ) → says (lines + 1) (rest ++ (bytes ++ t)) ≡ after_events events (says next (new.unread ++ t)) = λ t.
    subst (λ r. says (lines + 1) (r ++ (bytes ++ t)) ≡ after_events events (says next (new.unread ++ t))) unread (heard.heard.read t (lines + 1)) in
    let all_read : answer ≡ served.Failed → new.write_failed ≡ false → whole ≡ text_of (run events) = λ e fine.
    let stop_read : new.read_failed ≡ true = cause (all ∙ ap not fine) (some_faults answer new.faults count e) in
    ap (λ es. text_of (run es)) (handed_all (lines + 1) next rest bytes new.unread events (read []) (heard.stopped unfailed stop_read)) in
    let done = keeps run fronts answer new.write_failed whole front limit events (says next (new.unread ++ tail)) stop all_read text in
    let result' : result ≡ answer_from answer (not new.write_failed) = how ∙ ap (answer_from answer) all in
    subst (λ s. Keeps (outcome_of run limit s) whole front result) (sym (read tail))
    (subst (λ t. Keeps (outcome_of run limit (after_events events (says next (new.unread ++ tail)))) whole front t) (sym result') done)
