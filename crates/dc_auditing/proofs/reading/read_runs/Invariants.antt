use Rattle.std.proofs.Common.{◌≡◌, ℕ, List, length, map, take, Some}
use Rattle.std.specs.Prelude.{string_bytes}
use Rattle.dc_config.specs.Tree.{Tree}
use Rattle.dc_auditing.specs.Findings.{recorded_at, paths_of}
use Rattle.dc_auditing.specs.Runs.{held_in, IsWhole}
use Rattle.dc_auditing.proofs.reading.read_runs.Given as goal

abbrev pub invariant-loop-name : goal.invariant-loop-name
invariant-loop-name g l = record {
  told : (t : Tree) → g.F.Files.tree l.fn.files ≡ Some t → held_in l.runs.present.items l.runs.pairs.items ≡ map (recorded_at t) (map string_bytes (take l.name-index l.names));
  whole : IsWhole l.runs.present.items l.runs.pairs.items;
  each : length l.runs.present.items ≡ l.name-index;
  same : g.F.Files.tree l.files ≡ g.F.Files.tree l.fn.files;
  asked : g.F.Files.asked l.fn.files (paths_of (map string_bytes (take l.name-index l.names))) l.files;
  stays : g.F.Files.faults l.files ≡ g.F.Files.faults l.fn.files;
}
