use Rattle.std.proofs.Common.{◌≡◌, drop, find, bytes_eq}
use Rattle.dc_config.specs.Kept.{Entry, entries_of}
use Rattle.dc_config.proofs.memory.bytes_at.Given as goal

abbrev pub invariant-loop-file : goal.invariant-loop-file
invariant-loop-file l =
    find (λ (e : Entry). bytes_eq e.path l.path) (entries_of l.files) ≡ find (λ (e : Entry). bytes_eq e.path l.path) (entries_of (drop l.file-index l.files))
