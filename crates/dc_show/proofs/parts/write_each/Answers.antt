use Rattle.std.proofs.Common.{arith}
use Rattle.dc_writer.specs.Fated.{Fated-none}
use Rattle.dc_writer.proofs.Faring.{fared_both}
use Rattle.dc_writer.proofs.Writing.{wrote_both, wrote_none, wrote_as}
use Rattle.dc_show.proofs.PartLemmas.{is_there, each_more, each_whole}
use Rattle.dc_show.proofs.parts.write_each.Goals as goal

pub loop-at-init : goal.loop-at-init
loop-at-init g c = record {
  wrote = wrote_none _ _ g.met.K.Sink.gained_both g.met.K.Sink.gained_none _ _;
  fared = Fated-none g.K.Sink.gained g.K.Sink.refused g.K.Sink.faults _ _;
}

pub loop-at-preserved : goal.loop-at-preserved
loop-at-preserved g c =
    let b = g.met.K.Sink.gained_both in
    let records = c.args.message.now.records in
    let there = is_there records c.loop-at.at (omega (arith, c.count-at-end.ensures.value)) in
    record {
      wrote = wrote_as _ _ b (each_more g.P.Part.text records c.loop-at.at there.0 there.1) (wrote_both _ _ b c.loop-at.invariant.wrote (c.write.ensures.wrote there.0 there.1));
      fared = fared_both _ _ _ b _ _ c.loop-at.invariant.wrote c.loop-at.invariant.fared c.write.ensures.fared;
    }

pub returns-clause-wrote : goal.returns-clause-wrote
returns-clause-wrote g c =
    let records = c.args.message.now.records in
    wrote_as _ _ g.met.K.Sink.gained_both (each_whole g.P.Part.text records c.loop-at.at (omega (arith, c.count-at-end.ensures.value))) c.loop-at.invariant.wrote
