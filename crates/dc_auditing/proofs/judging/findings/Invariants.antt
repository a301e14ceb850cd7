use Rattle.std.proofs.Common.{◌≡◌, ◌≤◌, ◌++◌, length, map, drop}
use Rattle.dc_auditing.specs.Runs.{spread, found_of}
use Rattle.dc_auditing.proofs.judging.findings.Given as goal

abbrev pub invariant-loop-there : goal.invariant-loop-there
invariant-loop-there l = record {
  items : l.findings.items ++ map found_of (spread (drop l.there-index l.present) (drop l.next l.verdicts)) ≡ map found_of (spread l.present l.verdicts);
  bound : l.next ≤ length l.verdicts;
}
