-- What comparing a run with a recorded text, event by event, comes to.
use Rattle.std.proofs.Common.{◌≡◌, ℕ, ◌+◌, List, [], ◌∷◌, length, map, Option, Some, None, refl, ap, ◌∙◌, arith}
use Rattle.std.specs.Prelude.{is_some}
use Rattle.dc_model.specs.Draws.{draws_of}
use Rattle.dc_model.specs.Event.{Event, line}
use Rattle.dc_model.specs.Line.{line_starting}
use Rattle.dc_model.specs.Rules.{Rules}
use Rattle.dc_machine.specs.Machine.{Machine, step}
use Rattle.dc_machine.specs.Run.{opening, taken_from, run, seeded_run}
use Rattle.dc_engine.specs.Automaton.{Automaton, state_after}
use Rattle.dc_rules.specs.Settings.{rules_of}
use Rattle.dc_rules.specs.declared.config.Config.{Config}
use Rattle.dc_script.specs.Text.{text_of}
use Rattle.dc_core.specs.Running.{Running, core_machine}
use Rattle.dc_audit.specs.Matched.{behind_front, matched}
use Rattle.dc_audit.specs.Verdict.{compared, or_else, texts_of, cache_of}
use Rattle.dc_audit.specs.Judging.{Compared, going, differed, compared_of, compare_next, at_last, first_number, Judged, judging}
use Rattle.dc_audit.specs.declared.outcome.Verdict.{Verdict}
use Rattle.dc_audit.specs.declared.outcome.Verdict.TheVariants.{Differs}

-- One step

pub noted : (text : List ℕ) (old new : Option (List ℕ)) (k first first' : ℕ) → new ≡ matched text old → first' ≡ first_number (is_some old) (is_some new) k first
    → compared_of new first' ≡ compare_next k text (compared_of old first)
noted text None None k first first' e n = ap differed n
noted text None (Some rest) k first first' e n = cc
noted text (Some rest) None k first first' e n = ap differed n ∙ ap (λ o. compared_of o k) e
noted text (Some rest) (Some more) k first first' e n = ap (λ o. compared_of o k) e

pub judged_step : {S : Type 0} (m : Automaton S) (s s' : S) (e : Event) (words : List ℕ) (old new : Option (List ℕ)) (k first first' : ℕ)
    → s' ≡ m.next s e words → new ≡ matched (text_of (m.actions s e words)) old → k ≡ m.handled s + 1 → first' ≡ first_number (is_some old) (is_some new) k first
    → record { inner = s'; compared = compared_of new first' } ≡ (judging m).next (record { inner = s; compared = compared_of old first }) e words
judged_step {S} m s s' e words old new k first first' next match count number =
    ap {A = S} {B = Judged S} (λ x. record { inner = x; compared = compared_of new first' }) next
    ∙ ap {A = Compared} {B = Judged S} (λ c. record { inner = m.next s e words; compared = c })
    (noted (text_of (m.actions s e words)) old new k first first' match number ∙ ap (λ n. compare_next n (text_of (m.actions s e words)) (compared_of old first)) count)

-- Whole runs

-- What is said of a comparison that stands so, of the texts that are left.
abbrev go : Compared → ℕ → List (List ℕ) → Verdict
go (going rest) k ts = compared k ts rest
go (differed j) k ts = Differs j

go_behind : (o : Option (List ℕ)) (k : ℕ) (ts : List (List ℕ)) → go (compared_of o k) (k + 1) ts ≡ or_else (Differs k) (compared (k + 1) ts) o
go_behind None k ts = refl
go_behind (Some rest) k ts = refl

go_next : (k : ℕ) (t : List ℕ) (ts : List (List ℕ)) (c : Compared) → go (compare_next k t c) (k + 1) ts ≡ go c k (t ∷ ts)
unfolding compared
go_next k t ts (going rest) = go_behind (behind_front t rest) k ts
go_next k t ts (differed j) = refl

go_end : (k : ℕ) (c : Compared) → at_last k c ≡ go c k []
unfolding compared
go_end k (going rest) = refl
go_end k (differed j) = refl

-- The texts of the events from one on.
abbrev texts_from : Rules → (ℕ → List ℕ) → ℕ → Machine → List Event → List (List ℕ)
texts_from rules words i m es = map (λ t. text_of t.stepped.actions) (taken_from rules words i m es)

runs_from : (rules : Rules) (words : ℕ → List ℕ) (i : ℕ) (m : Machine) (c : Compared) (es : List Event)
    → at_last (i + length es + 1) (state_after (judging core_machine) words i (record { inner = record { rules = rules; machine = m; handled = i }; compared = c }) es).compared
    ≡ go c (i + 1) (texts_from rules words i m es)
unfolding taken_from
runs_from rules words i m c [] = let none : i + 0 + 1 ≡ i + 1 = omega arith in ap (λ k. at_last k c) none ∙ go_end (i + 1) c
runs_from rules words i m c (e ∷ es) =
    let s = step rules m e (words i) in
    let c' = compare_next (i + 1) (text_of s.actions) c in
    let number : i + length (e ∷ es) + 1 ≡ i + 1 + length es + 1 = omega arith in
    let last = state_after (judging core_machine) words (i + 1) (record { inner = record { rules = rules; machine = s.machine; handled = i + 1 }; compared = c' }) es in
    ap (λ k. at_last k last.compared) number ∙ runs_from rules words (i + 1) s.machine c' es
    ∙ go_next (i + 1) (text_of s.actions) (texts_from rules words (i + 1) s.machine es) c

handled_from : (words : ℕ → List ℕ) (i : ℕ) (s : Judged Running) (es : List Event) → (state_after (judging core_machine) words i s es).inner.handled ≡ s.inner.handled + length es
handled_from words i s [] = omega arith
handled_from words i s (e ∷ es) = let more = handled_from words (i + 1) ((judging core_machine).next s e (words i)) es in omega (arith, more)

-- The core before the first event, with the opening compared.
abbrev pub begun : Config → List ℕ → Judged Running
begun c recorded = record {
  inner = record { rules = rules_of c; machine = opening (cache_of c); handled = 0 };
  compared = compare_next 0 (text_of (line line_starting ∷ [])) (going recorded);
}

pub handled_all : (c : Config) (seed recorded : List ℕ) (es : List Event) → (state_after (judging core_machine) (draws_of seed) 0 (begun c recorded) es).inner.handled ≡ length es
handled_all c seed recorded es = let all = handled_from (draws_of seed) 0 (begun c recorded) es in omega (arith, all)

pub judged_all : (c : Config) (seed recorded : List ℕ) (es : List Event)
    → at_last (length es + 1) (state_after (judging core_machine) (draws_of seed) 0 (begun c recorded) es).compared ≡ compared 0 (texts_of c seed es) recorded
unfolding texts_of seeded_run run
judged_all c seed recorded es =
    let first : length es + 1 ≡ 0 + length es + 1 = omega arith in
    let opened = text_of (line line_starting ∷ []) in
    let behind = texts_from (rules_of c) (draws_of seed) 0 (opening (cache_of c)) es in
    ap (λ k. at_last k (state_after (judging core_machine) (draws_of seed) 0 (begun c recorded) es).compared) first
    ∙ runs_from (rules_of c) (draws_of seed) 0 (opening (cache_of c)) (compare_next 0 opened (going recorded)) es
    ∙ go_next 0 opened behind (going recorded)

-- The state before the first event, by its parts.
pub begun_is : (c : Config) (recorded : List ℕ) (inner core : Running) (compared : Compared) → inner ≡ core → core ≡ record { rules = rules_of c; machine = opening (cache_of c); handled = 0 }
    → compared ≡ compare_next 0 (text_of (line line_starting ∷ [])) (going recorded) → record { inner = inner; compared = compared } ≡ begun c recorded
begun_is c recorded inner core so same e f =
    ap {A = Running} {B = Judged Running} (λ r. record { inner = r; compared = so }) (same ∙ e)
    ∙ ap {A = Compared} {B = Judged Running} (λ x. record { inner = record { rules = rules_of c; machine = opening (cache_of c); handled = 0 }; compared = x }) f

pub handled_is : (c : Config) (seed recorded : List ℕ) (es : List Event) (start end : Judged Running) → start ≡ begun c recorded
    → end ≡ state_after (judging core_machine) (draws_of seed) 0 start es → end.inner.handled ≡ length es
handled_is c seed recorded es start end e f =
    ap (λ s. s.inner.handled) (f ∙ ap (λ s. state_after (judging core_machine) (draws_of seed) 0 s es) e) ∙ handled_all c seed recorded es

pub verdict_is : (c : Config) (seed recorded : List ℕ) (es : List Event) (start end : Judged Running) → start ≡ begun c recorded
    → end ≡ state_after (judging core_machine) (draws_of seed) 0 start es → at_last (end.inner.handled + 1) end.compared ≡ compared 0 (texts_of c seed es) recorded
verdict_is c seed recorded es start end e f =
    ap (λ s. at_last (s.inner.handled + 1) s.compared) (f ∙ ap (λ s. state_after (judging core_machine) (draws_of seed) 0 s es) e)
    ∙ ap (λ n. at_last (n + 1) (state_after (judging core_machine) (draws_of seed) 0 (begun c recorded) es).compared) (handled_all c seed recorded es)
    ∙ judged_all c seed recorded es
