use Rattle.std.proofs.Common.{take, flat_map}
use Rattle.dc_writer.specs.Fated.{Fated}
use Rattle.dc_writer.specs.Written.{Wrote}
use Rattle.dc_show.proofs.parts.write_each.Given as goal

abbrev pub invariant-loop-at : goal.invariant-loop-at
invariant-loop-at g l = record {
  wrote : Wrote g.K.Sink.gained g.K.Sink.faults l.fn.writer l.fn.sink (flat_map g.P.Part.text (take l.at l.message.records)) l.writer l.sink;
  fared : Fated g.K.Sink.gained g.K.Sink.refused g.K.Sink.faults l.fn.writer.failed l.writer.failed l.fn.sink l.sink;
}
