use Rattle.std.proofs.Common.{arith}
use Rattle.dc_lookup.specs.Text.{data_byte}
use Rattle.dc_writer.specs.Fated.{Fated-none}
use Rattle.dc_writer.proofs.Faring.{fared_both}
use Rattle.dc_writer.proofs.Writing.{wrote_both, wrote_none, wrote_as}
use Rattle.dc_show.proofs.TextLemmas.{bytes_more}
use Rattle.dc_show.proofs.packet.write_opaque.Goals as goal

pub loop-byte-init : goal.loop-byte-init
loop-byte-init g c = record {
  wrote = wrote_none _ _ g.met.K.Sink.gained_both g.met.K.Sink.gained_none _ _;
  fared = Fated-none g.K.Sink.gained g.K.Sink.refused g.K.Sink.faults _ _;
}

pub loop-byte-preserved : goal.loop-byte-preserved
loop-byte-preserved g c =
    let b = g.met.K.Sink.gained_both in
    record {
      wrote = wrote_as _ _ b (bytes_more data_byte c.args.bytes.now c.loop-byte.byte-index (omega arith)) (wrote_both _ _ b c.loop-byte.invariant.wrote c.write_byte.ensures.wrote);
      fared = fared_both _ _ _ b _ _ c.loop-byte.invariant.wrote c.loop-byte.invariant.fared c.write_byte.ensures.fared;
    }
