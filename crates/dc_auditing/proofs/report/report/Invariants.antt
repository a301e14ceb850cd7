use Rattle.std.proofs.Common.{◌≡◌, ◌++◌, length, map, drop}
use Rattle.std.specs.Prelude.{string_bytes}
use Rattle.dc_auditing.specs.Report.{report_of}
use Rattle.dc_auditing.proofs.report.report.Given as goal

abbrev pub invariant-loop-i : goal.invariant-loop-i
invariant-loop-i l = l.text.items ++ report_of (drop l.i (map string_bytes l.names)) (drop l.i l.findings) ≡ report_of (map string_bytes l.names) l.findings
