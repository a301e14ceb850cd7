use Rattle.std.proofs.Common.{◌≡◌, ◌++◌, length, List, ℕ, Some}
use Rattle.std.specs.Vec.Iter.{into_iter_items, into_iter_len}
use Rattle.dc_config.specs.Tree.{Tree}
use Rattle.dc_config.specs.Folders.{with_zone_files}
use Rattle.dc_config.specs.Asked.{paths_of}
use Rattle.dc_config.proofs.folders.add_zone_files.Given as goal

abbrev pub invariant-loop-file : goal.invariant-loop-file
invariant-loop-file g l = record {
  zones : (t : Tree) → g.F.Files.tree l.fn.files ≡ Some t → with_zone_files t (into_iter_items l.rest) l.zones ≡ with_zone_files t l.fn.names.items l.fn.zones;
  same : g.F.Files.tree l.files ≡ g.F.Files.tree l.fn.files;
  asked : (done : List (List ℕ)) × g.F.Files.asked l.fn.files done l.files × (done ++ paths_of (into_iter_items l.rest) ≡ paths_of l.fn.names.items);
  stays : g.F.Files.faults l.files ≡ g.F.Files.faults l.fn.files;
  count : length (into_iter_items l.rest) ≡ into_iter_len l.rest;
}

abbrev pub decreases-loop-file : goal.decreases-loop-file
decreases-loop-file g l = into_iter_len l.rest
