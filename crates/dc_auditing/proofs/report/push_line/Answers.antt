use Rattle.std.proofs.Common.{◌∙◌, ap, ◌++◌}
use Rattle.dc_auditing.specs.Report.{number_text}
use Rattle.dc_auditing.proofs.ReportLemmas.{line_parts}
use Rattle.dc_auditing.proofs.report.push_line.Goals as goal

pub returns : goal.returns
returns c =
    line_parts c.args.text.now.items c.extend_from_slice.new.self.items c.extend_from_slice-2.new.self.items c.extend_from_slice-3.new.self.items c.push_number.new.text.items c.extend_from_slice-4.new.self.items
    c.as_bytes.result.now c.as_bytes-2.result.now c.args.name.now c.args.finding c.in_ok-extend_from_slice.ensures.items (c.as_bytes.ensures.value ∙ c.word.ensures) c.in_ok-extend_from_slice-2.ensures.items
    c.in_ok-extend_from_slice-3.ensures.items c.as_bytes-2.ensures.value (c.in_ok-push_number.ensures ∙ ap (λ n. c.extend_from_slice-3.new.self.items ++ number_text n) c.number.ensures) c.in_ok-extend_from_slice-4.ensures.items
