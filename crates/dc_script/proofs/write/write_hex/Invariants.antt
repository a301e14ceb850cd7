use Rattle.std.proofs.Common.{length, take, ◌-◌, ◌≤◌}
use Rattle.dc_model.specs.Line.{hex}
use Rattle.dc_writer.specs.Fated.{Fated}
use Rattle.dc_writer.specs.Written.{Wrote}
use Rattle.dc_script.proofs.write.write_hex.Given as goal

abbrev pub invariant-loop-at : goal.invariant-loop-at
invariant-loop-at g l = record {
  wrote : Wrote g.K.Sink.gained g.K.Sink.faults l.fn.writer l.fn.sink (hex (take l.at l.bytes)) l.writer l.sink;
  fared : Fated g.K.Sink.gained g.K.Sink.refused g.K.Sink.faults l.fn.writer.failed l.writer.failed l.fn.sink l.sink;
  within : l.at ≤ length l.bytes;
}

abbrev pub decreases-loop-at : goal.decreases-loop-at
decreases-loop-at g l = length l.bytes - l.at
