use Rattle.std.proofs.Common.{◌≤◌, length, arith, ap}
use Rattle.dc_model.specs.Line.{hex}
use Rattle.dc_writer.specs.Fated.{Fated-none}
use Rattle.dc_writer.proofs.Faring.{fared_both}
use Rattle.dc_writer.proofs.Writing.{wrote_as, wrote_both, wrote_none}
use Rattle.dc_script.proofs.Hex.{hex_more, take_whole}
use Rattle.dc_script.proofs.write.write_hex.Goals as goal

pub loop-at-init : goal.loop-at-init
loop-at-init g c = record {
  wrote = wrote_none _ _ g.met.K.Sink.gained_both g.met.K.Sink.gained_none _ _;
  fared = Fated-none g.K.Sink.gained g.K.Sink.refused g.K.Sink.faults _ _;
  within = omega arith;
}

pub loop-at-preserved : goal.loop-at-preserved
loop-at-preserved g c =
    let b = g.met.K.Sink.gained_both in
    record {
      wrote = wrote_as _ _ b (hex_more c.args.bytes.now c.loop-at.at c.min-count.result) (wrote_both _ _ b c.loop-at.invariant.wrote c.write_digits.ensures.wrote);
      fared = fared_both _ _ _ b _ _ c.loop-at.invariant.wrote c.loop-at.invariant.fared c.write_digits.ensures.fared;
      within = omega arith;
    }

pub returns-clause-wrote : goal.returns-clause-wrote
returns-clause-wrote g c =
    let h : length c.args.bytes.now ≤ c.loop-at.at = omega arith in
    wrote_as _ _ g.met.K.Sink.gained_both (ap hex (take_whole c.args.bytes.now c.loop-at.at h)) c.loop-at.invariant.wrote
