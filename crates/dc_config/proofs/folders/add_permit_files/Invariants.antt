use Rattle.std.proofs.Common.{◌≡◌, length}
use Rattle.std.specs.Vec.Iter.{into_iter_items, into_iter_len}
use Rattle.dc_config.specs.Folders.{with_permit_files}
use Rattle.dc_config.proofs.folders.add_permit_files.Given as goal

abbrev pub invariant-loop-file : goal.invariant-loop-file
invariant-loop-file l = record {
  permit : with_permit_files (into_iter_items l.rest) l.permit ≡ with_permit_files l.fn.names.items l.fn.permit;
  count : length (into_iter_items l.rest) ≡ into_iter_len l.rest;
}

abbrev pub decreases-loop-file : goal.decreases-loop-file
decreases-loop-file l = into_iter_len l.rest
