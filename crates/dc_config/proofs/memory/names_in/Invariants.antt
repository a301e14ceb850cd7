use Rattle.std.proofs.Common.{◌≡◌, ◌++◌, drop}
use Rattle.dc_config.specs.Kept as kept
use Rattle.dc_config.proofs.memory.names_in.Given as goal

abbrev pub invariant-loop-file : goal.invariant-loop-file
invariant-loop-file l =
    l.names.items ++ kept.names_in l.folder (kept.entries_of (drop l.file-index l.files)) ≡ kept.names_in l.folder (kept.entries_of l.files)
