-- What a script in memory says, by the events that a recorded world handed out.
use Rattle.std.proofs.Common.{◌≡◌, ℕ, suc, ◌+◌, ◌-◌, ◌<◌, ◌≤◌, ◌^◌, Bool, true, false, not, List, [], ◌∷◌, ◌++◌, length, refl, ap, sym, ◌∙◌, subst, arith, Option, Some, None, inl, inr, ◌⊎◌, length-append, bytes_eq}
use Rattle.std.proofs.lemmas.List.{append-nil}
use Rattle.std.specs.Io.KnownBytes.{IsAtEnd}
use Rattle.std.specs.Prelude.{codes, if◌then◌else◌}
use Rattle.dc_model.specs.Event.{Event}
use Rattle.dc_script.specs.Fated.{Fated}
use Rattle.dc_script.specs.Script.{Said, Words, bad_at, said_from, said_at_end, with_event, pieces_of}
use Rattle.dc_script.specs.Read.{after_events, says, line_event}
use Rattle.dc_script.specs.World.{IsOver, Breaks}
use Rattle.dc_model.specs.Draws.{draws_of}
use Rattle.dc_draws.specs.Drawn.{Drawn}
use Rattle.dc_engine.specs.Automaton.{Automaton, state_after}
use Rattle.dc_script.specs.Read.{Read}
use Rattle.dc_script.specs.World.{Recorded, opened, HandedOut, Passed}
use Rattle.dc_serve.specs.Serve.{Ends, Justified, Ran, passes, count_served}
use Rattle.dc_serve.proofs.Runs.{passes_events}
use Rattle.dc_serve.specs.declared.Served.{Served}
use Rattle.dc_serve.specs.declared.Served.TheVariants as served
use Rattle.dc_audit.specs.Heard.{IsHeard, bad_by}

-- What can't fail hasn't.
pub unfailed : {S A : Type 0} (gained : S → List A → S → Type 0) (faults : S → ℕ) (failed : Bool) (old new : S) → Fated gained (λ a b. ⊥) faults false failed old new → failed ≡ false
unfailed gained faults false old new f = refl
unfailed gained faults true old new f = absurd f.last

-- There are fewer events than lines

none_at_end : (k : ℕ) (pieces : Words) → (said_at_end k pieces).events ≡ []
none_at_end k [] = refl
none_at_end k ([] ∷ []) = refl
none_at_end k ([] ∷ w ∷ ws) = refl
none_at_end k ((c ∷ cs) ∷ ws) = refl

few_more : (k : ℕ) (o : Option Event) (behind : Said) (n : ℕ) → length behind.events ≤ n → length (with_event k o behind).events ≤ suc n
few_more k None behind n h = omega arith
few_more k (Some e) behind n h = omega (arith, h)

few_by_line : (read : List ℕ → Option Event) (k : ℕ) (text : List ℕ) (pieces : Words) (behind : Said) (ends : Bool) (n : ℕ) → length behind.events ≤ n
    → length (if ends then said_at_end k pieces else with_event k (read text) behind).events ≤ suc n
few_by_line read k text pieces behind true n h = rw (none_at_end k pieces) (omega arith)
few_by_line read k text pieces behind false n h = few_more k (read text) behind n h

few_said : (read : List ℕ → Option Event) (k : ℕ) (piece : List ℕ) (pieces : Words) → length (said_from read k (piece ∷ pieces)).events ≤ length pieces
unfolding said_from
few_said read k piece [] = omega arith
few_said read k text (piece ∷ pieces) =
    few_by_line read k text (piece ∷ pieces) (said_from read (k + 1) (piece ∷ pieces)) (bytes_eq text (codes "end")) (length pieces) (few_said read (k + 1) piece pieces)

few_pieces : (read : List ℕ → Option Event) (k : ℕ) (pieces : Words) (n : ℕ) → length pieces ≤ n + 1 → length (said_from read k pieces).events ≤ n
unfolding said_from
few_pieces read k [] n h = omega arith
few_pieces read k (piece ∷ pieces) n h = let few = few_said read k piece pieces in omega (arith, few, h)

-- Where there are at most 2^60 pieces, there are fewer events.
pub few_events : (n : ℕ) (text : List ℕ) → length (pieces_of text) ≤ 2 ^ 60 → length (says n text).events < 2 ^ 60
few_events n text h = let few = few_pieces line_event n (pieces_of text) (2 ^ 60 - 1) (omega (arith, h)) in omega (arith, few)

-- What is left says

says_alone : (n : ℕ) (text tail : List ℕ) → tail ≡ [] → says n (text ++ tail) ≡ says n text
says_alone n text tail e = ap (λ t. says n (text ++ t)) e ∙ ap (says n) (append-nil text)

broken_by : (left text : List ℕ) (n ahead : ℕ) → ((t : List ℕ) (m : ℕ) → says m (text ++ t) ≡ bad_at (m + ahead)) ⊎ (IsAtEnd (Some left) × ((m : ℕ) → says m text ≡ bad_at (m + ahead)))
    → says n (text ++ left) ≡ bad_at (n + ahead)
broken_by left text n ahead (inl f) = f left n
broken_by left text n ahead (inr f) = says_alone n text left f.0 ∙ f.1 n

broken_line : (left text : List ℕ) (lines k next : ℕ) → Breaks (Some left) text lines k → lines + 1 ≡ next → next < 2 ^ 62 → says next (text ++ left) ≡ bad_at k
broken_line left text lines k next b e few =
    let near = b.near in
    let number : k ≡ lines + 1 + b.ahead = b.number (omega (arith, near, e, few)) in
    let same : next + b.ahead ≡ k = omega (arith, number, e) in
    broken_by left text next b.ahead b.bad ∙ ap bad_at same

left_says : (answer : Served) (left text : List ℕ) (lines next : ℕ) (failed : Bool) → IsHeard answer
    → Justified answer (IsAtEnd (Some left) × IsOver text × (failed ≡ false)) (λ k. Breaks (Some left) text lines k × (failed ≡ false))
    → lines + 1 ≡ next → next < 2 ^ 62 → says next (text ++ left) ≡ record { events = []; bad = bad_by answer }
left_says served.Finished left text lines next failed heard just e few = absurd heard
left_says served.Spent left text lines next failed heard just e few = absurd heard
left_says served.Ended left text lines next failed heard just e few = says_alone next text left just.0 ∙ just.1 next
left_says served.Failed left text lines next failed heard just e few = absurd heard
left_says (served.Bad k) left text lines next failed heard just e few = broken_line left text lines k next just.0 e few

-- What the whole text says.
all_says : (answer : Served) (events : List Event) (rest source bytes left unread : List ℕ) (lines lines' : ℕ) (failed : Bool) → source ≡ bytes ++ left → Read rest bytes events unread
    → (lines + length events < 2 ^ 64 → lines' ≡ lines + length events) → IsHeard answer
    → Justified answer (IsAtEnd (Some left) × IsOver unread × (failed ≡ false)) (λ k. Breaks (Some left) unread lines' k × (failed ≡ false))
    → length events ≤ 2 ^ 60 → lines < 2 ^ 32 → says (lines + 1) (rest ++ source) ≡ record { events = events; bad = bad_by answer }
all_says answer events rest source bytes left unread lines lines' failed took read counted heard just few short =
    let number : lines' ≡ lines + length events = counted (omega (arith, few, short)) in
    let next = lines + 1 + length events in
    let at : lines' + 1 ≡ next = omega (arith, number) in
    ap (λ t. says (lines + 1) (rest ++ t)) took ∙ read left (lines + 1)
    ∙ ap (after_events events) (left_says answer left unread lines' next failed heard just at (omega (arith, few, short)))
    ∙ ap {A = List Event} {B = Said} (λ es. record { events = es; bad = bad_by answer }) (append-nil events)

events_within : (events : List Event) (rest source bytes left unread : List ℕ) (lines : ℕ) → source ≡ bytes ++ left → Read rest bytes events unread
    → length (pieces_of (rest ++ source)) ≤ 2 ^ 60 → length events < 2 ^ 60
events_within events rest source bytes left unread lines took read h =
    let said = ap (λ t. says (lines + 1) (rest ++ t)) took ∙ read left (lines + 1) in
    let behind = says (lines + 1 + length events) (unread ++ left) in
    let count : length (says (lines + 1) (rest ++ source)).events ≡ length (events ++ behind.events) = ap (λ s. length s.events) said in
    let few = few_events (lines + 1) (rest ++ source) h in
    omega (arith, count, few, length-append events behind.events)

heard_by_end : (answer : Served) (events : List Event) (finished : Bool) (faults : ℕ) (read_failed wrote : Bool) → Ends answer finished (length events) (2 ^ 60) → finished ≡ false
    → length events < 2 ^ 60 → faults ≡ count_served answer 0 → (0 < faults → read_failed ≡ true) → read_failed ≡ false → IsHeard answer
heard_by_end served.Finished events finished faults read_failed wrote ends on few count cause well = let bad = sym on ∙ ends.0 in cc
heard_by_end served.Spent events finished faults read_failed wrote ends on few count cause well = let all = ends.1 in omega (arith, all, few)
heard_by_end served.Ended events finished faults read_failed wrote ends on few count cause well = tt
heard_by_end served.Failed events finished faults read_failed wrote ends on few count cause well = let bad = sym well ∙ cause (omega (arith, count)) in cc
heard_by_end (served.Bad k) events finished faults read_failed wrote ends on few count cause well = tt

within_limit : (answer : Served) (finished : Bool) (count limit : ℕ) → Ends answer finished count limit → count ≤ limit
within_limit served.Finished finished count limit h = h.1
within_limit served.Spent finished count limit h = let e = h.1 in omega (arith, e)
within_limit served.Ended finished count limit h = let e = h.1 in omega (arith, e)
within_limit served.Failed finished count limit h = let e = h.1 in omega (arith, e)
within_limit (served.Bad k) finished count limit h = let e = h.1 in omega (arith, e)

-- A run of a machine that is never finished, over a script of fewer than 2^60 bytes in memory.
module _ {K M : Type 0} (gained : K → List ℕ → K → Type 0) (sink_faults : K → ℕ) (m : Automaton M) (seed : List ℕ) (s s' : M) (drawn : Drawn) (old new : Recorded (List ℕ) K) (lines : ℕ)
    (rest source : List ℕ) (sink : K) (events : List Event) (answer : Served)
    (from : old ≡ opened (λ _. 0) sink_faults rest lines source sink)
    (words : drawn ≡ record { seed = seed; given = 0 })
    (passed : Passed (λ a xs b. a ≡ xs ++ b) (λ a b. ⊥) (λ _. 0) gained (λ a b. ⊥) sink_faults old (passes m (draws_of drawn.seed) drawn.given s events answer) new)
    (ran : Ran m (draws_of drawn.seed) drawn.given s s' (2 ^ 60) events answer) (short : lines < 2 ^ 32) where
  handed : HandedOut (λ a xs b. a ≡ xs ++ b) (λ a b. ⊥) (λ _. 0) old events new
  handed = subst (λ es. HandedOut (λ a xs b. a ≡ xs ++ b) (λ a b. ⊥) (λ _. 0) old es new) (passes_events m (draws_of drawn.seed) drawn.given s events answer) passed.heard

  took : source ≡ handed.heard.bytes ++ new.source
  took = sym (ap (λ w. w.source) from) ∙ handed.heard.taken

  read : Read rest handed.heard.bytes events new.unread
  read = subst (λ r. Read r handed.heard.bytes events new.unread) (ap (λ w. w.unread) from) handed.heard.read

  pub was_heard : length (pieces_of (rest ++ source)) ≤ 2 ^ 60 → m.finished s' ≡ false → new.faults ≡ count_served answer old.faults
      → (wrote : Bool) → wrote ≡ not new.write_failed → (wrote ≡ true → 0 < new.faults → new.read_failed ≡ true) → IsHeard answer
  was_heard few on count wrote whole cause =
      let unread = unfailed (λ a xs b. a ≡ xs ++ b) (λ _. 0) new.read_failed old.source new.source
      (subst (λ b. Fated (λ a xs b. a ≡ xs ++ b) (λ a b. ⊥) (λ _. 0) b new.read_failed old.source new.source) (ap (λ w. w.read_failed) from) passed.heard.fated) in
      let unwritten = unfailed gained sink_faults new.write_failed old.sink new.sink
      (subst (λ b. Fated gained (λ a b. ⊥) sink_faults b new.write_failed old.sink new.sink) (ap (λ w. w.write_failed) from) passed.done.fated) in
      let within = events_within events rest source handed.heard.bytes new.source new.unread lines took read few in
      heard_by_end answer events (m.finished s') new.faults new.read_failed wrote ran.ends on within (count ∙ ap (λ w. count_served answer w.faults) from)
      (cause (whole ∙ ap not unwritten)) unread

  pub run_says : IsHeard answer → Justified answer (IsAtEnd (Some new.source) × IsOver new.unread × (new.write_failed ≡ false)) (λ k. Breaks (Some new.source) new.unread new.lines k × (new.write_failed ≡ false))
      → says (lines + 1) (rest ++ source) ≡ record { events = events; bad = bad_by answer }
  run_says heard just =
      all_says answer events rest source handed.heard.bytes new.source new.unread lines new.lines new.write_failed took read
      (subst (λ n. n + length events < 2 ^ 64 → new.lines ≡ n + length events) (ap (λ w. w.lines) from) handed.heard.counted) heard just
      (within_limit answer (m.finished s') (length events) (2 ^ 60) ran.ends) short

  pub run_state : (said : Said) → said ≡ record { events = events; bad = bad_by answer } → s' ≡ state_after m (draws_of seed) 0 s said.events
  run_state said e = ran.state ∙ ap (λ d. state_after m (draws_of d.seed) d.given s events) words ∙ ap (λ x. state_after m (draws_of seed) 0 s x.events) (sym e)
