use Rattle.std.proofs.Common.{◌≡◌, ℕ, List, ◌++◌, drop, map}
use Rattle.dc_lookup.specs.Text.{printed, strings}
use Rattle.dc_writer.specs.Fated.{Fated}
use Rattle.dc_writer.specs.Written.{Wrote}
use Rattle.dc_show.proofs.parts.write_strings.Given as goal

abbrev pub invariant-loop-byte : goal.invariant-loop-byte
invariant-loop-byte g l =
    (done : List ℕ) × Wrote g.K.Sink.gained g.K.Sink.faults l.fn.writer l.fn.sink done l.writer l.sink
    × (map printed (strings 0 l.bytes) ≡ done ++ map printed (strings l.left (drop l.byte-index l.bytes)))
    × Fated g.K.Sink.gained g.K.Sink.refused g.K.Sink.faults l.fn.writer.failed l.writer.failed l.fn.sink l.sink
