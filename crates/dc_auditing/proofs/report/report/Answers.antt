use Rattle.std.proofs.Common.{◌<◌, ◌++◌, length, map, ap, sym, refl, ◌∙◌, arith, get_or}
use Rattle.std.specs.Prelude.{string_bytes}
use Rattle.std.proofs.lemmas.List.{get_or-map, length-map}
use Rattle.dc_audit.specs.declared.outcome.Verdict.TheVariants.{Same}
use Rattle.dc_auditing.specs.Report.{line_of}
use Rattle.dc_auditing.specs.declared.finding.Finding.TheVariants.{Judged}
use Rattle.dc_auditing.proofs.ReportLemmas.{report_more, report_all}
use Rattle.dc_auditing.proofs.report.report.Goals as goal

pub loop-i-preserved : goal.loop-i-preserved
loop-i-preserved c =
    let names = c.args.names.now in
    let i = c.loop-i.i in
    let lt : i < length names = c.loop-i-test.true in
    let item = c.index-names-i.result in
    let finding = get_or c.args.findings.now i (Judged Same) in
    report_more c.loop-i.text.items c.push_line.new.text.items (map string_bytes names) c.args.findings.now i (string_bytes item) finding (Judged Same) _ (omega (arith, lt, length-map names string_bytes)) (omega (arith, lt, c.requires))
    (ap string_bytes c.index-names-i.is ∙ sym (get_or-map string_bytes names i item (string_bytes item) lt)) refl (c.in_ok-push_line.ensures ∙ ap (λ n. c.loop-i.text.items ++ line_of n finding) c.as_str.ensures.value) c.loop-i.invariant

pub returns : goal.returns
returns c = report_all c.loop-i.text.items (map string_bytes c.args.names.now) c.args.findings.now c.loop-i.i _ (omega (arith, c.loop-i-test.false, length-map c.args.names.now string_bytes)) c.loop-i.invariant
