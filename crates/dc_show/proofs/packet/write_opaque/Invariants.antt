use Rattle.std.proofs.Common.{take, flat_map}
use Rattle.dc_lookup.specs.Text.{data_byte}
use Rattle.dc_writer.specs.Fated.{Fated}
use Rattle.dc_writer.specs.Written.{Wrote}
use Rattle.dc_show.proofs.packet.write_opaque.Given as goal

abbrev pub invariant-loop-byte : goal.invariant-loop-byte
invariant-loop-byte g l = record {
  wrote : Wrote g.K.Sink.gained g.K.Sink.faults l.fn.writer l.fn.sink (flat_map data_byte (take l.byte-index l.bytes)) l.writer l.sink;
  fared : Fated g.K.Sink.gained g.K.Sink.refused g.K.Sink.faults l.fn.writer.failed l.writer.failed l.fn.sink l.sink;
}
