use Rattle.std.proofs.Common.{◌≡◌, ◌∙◌, ap, sym, arith, length, map, eqb, not, refl, subst, true, false, ℕ, List, Option}
use Rattle.std.specs.Prelude.{string_bytes}
use Rattle.std.specs.List.{count_by}
use Rattle.std.proofs.lemmas.List.{length-map}
use Rattle.dc_event.specs.Told.{GainedFront}
use Rattle.dc_auditing.specs.Findings.{Recorded, finding_of, is_same}
use Rattle.dc_auditing.specs.Report.{report_of}
use Rattle.dc_auditing.specs.Runs.{held_in}
use Rattle.dc_auditing.specs.Audited.{all_same, lines}
use Rattle.dc_auditing.specs.declared.finding.Finding.{Finding}
use Rattle.dc_auditing.proofs.FindingLemmas.{none_unequal}
use Rattle.dc_auditing.proofs.SpreadLemmas.{held_length}
use Rattle.dc_auditing.proofs.command.audit_command.Goals as goal

-- what was put is the lines of what is held
text_is : (names : List (List ℕ)) (held : List (Option Recorded)) (slice found : List Finding) (put text : List ℕ) → put ≡ text → text ≡ report_of names slice → slice ≡ found → found ≡ map finding_of held → put ≡ lines names held
text_is names held slice found put text p t s f = p ∙ t ∙ ap (report_of names) (s ∙ f)

-- none differs
none_is : (held : List (Option Recorded)) (slice found : List Finding) (n : ℕ) → n ≡ count_by (λ f. not (is_same f)) slice → slice ≡ found → found ≡ map finding_of held → all_same held ≡ eqb n 0
none_is held slice found n e s f = sym (none_unequal (map finding_of held)) ∙ ap (λ k. eqb k 0) (sym (e ∙ ap (count_by (λ f. not (is_same f))) (s ∙ f)))

pub report-requires : goal.report-requires
report-requires g c =
    let runs = c.in-Ok.runs in
    let long = ap length (c.as_slice.ensures.value ∙ c.in-Ok-judged.ensures) in
    omega (arith, long, length-map (held_in runs.present.items runs.pairs.items) finding_of, held_length runs.present.items runs.pairs.items, c.in-Ok.ensures.each)

pub returns-in-Failed-clause-audited : goal.returns-in-Failed-clause-audited
returns-in-Failed-clause-audited g c =
    let runs = c.in-Ok.runs in
    let held = held_in runs.present.items runs.pairs.items in
    let names = map string_bytes c.args.names.now in
    let text = text_is names held _ _ _ _ c.as_slice-3.ensures.value c.in-Ok-report.ensures c.as_slice.ensures.value c.in-Ok-judged.ensures in
    record {
      held = held;
      read = record {
        each = held_length runs.present.items runs.pairs.items ∙ c.in-Ok.ensures.each ∙ sym (length-map c.args.names.now string_bytes);
        told = c.in-Ok.ensures.told;
        asks = c.in-Ok.ensures.asked;
      };
      written = subst (λ t. GainedFront g.K.Sink.gained c.args.sink.now t c.put_all.new.sink) text c.in-Failed.ensures.whole;
    }

pub returns-in-Taken-clause-audited : goal.returns-in-Taken-clause-audited
returns-in-Taken-clause-audited g c =
    let runs = c.in-Ok.runs in
    let held = held_in runs.present.items runs.pairs.items in
    let names = map string_bytes c.args.names.now in
    let text = text_is names held _ _ _ _ c.as_slice-3.ensures.value c.in-Ok-report.ensures c.as_slice.ensures.value c.in-Ok-judged.ensures in
    record {
      held = held;
      read = record {
        each = held_length runs.present.items runs.pairs.items ∙ c.in-Ok.ensures.each ∙ sym (length-map c.args.names.now string_bytes);
        told = c.in-Ok.ensures.told;
        asks = c.in-Ok.ensures.asked;
      };
      same_is = none_is held _ _ _ c.count_unequal-unequal.ensures c.as_slice-2.ensures.value c.in-Ok-judged.ensures ∙ ap (λ n. eqb n 0) c.if-unequal-eq0.true;
      written = subst (λ t. g.K.Sink.gained c.args.sink.now t c.put_all.new.sink) text c.in-Taken.ensures.whole.1;
    }

not_none : (n : ℕ) → (n ≡ 0 → ⊥) → eqb n 0 ≡ false
not_none n h = grind arith

pub returns-clause-audited : goal.returns-clause-audited
returns-clause-audited g c =
    let runs = c.in-Ok.runs in
    let held = held_in runs.present.items runs.pairs.items in
    let names = map string_bytes c.args.names.now in
    let text = text_is names held _ _ _ _ c.as_slice-3.ensures.value c.in-Ok-report.ensures c.as_slice.ensures.value c.in-Ok-judged.ensures in
    record {
      held = held;
      read = record {
        each = held_length runs.present.items runs.pairs.items ∙ c.in-Ok.ensures.each ∙ sym (length-map c.args.names.now string_bytes);
        told = c.in-Ok.ensures.told;
        asks = c.in-Ok.ensures.asked;
      };
      same_is = none_is held _ _ _ c.count_unequal-unequal.ensures c.as_slice-2.ensures.value c.in-Ok-judged.ensures ∙ not_none _ c.if-unequal-eq0.false;
      written = subst (λ t. g.K.Sink.gained c.args.sink.now t c.put_all.new.sink) text c.in-Taken-2.ensures.whole.1;
    }
