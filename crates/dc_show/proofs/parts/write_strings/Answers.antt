use Rattle.std.proofs.Common.{[], ◌++◌, arith, map, refl}
use Rattle.dc_lookup.specs.Text.{printed, strings}
use Rattle.dc_writer.specs.Fated.{Fated-none}
use Rattle.dc_writer.proofs.Faring.{fared_both}
use Rattle.dc_writer.proofs.Writing.{wrote_both, wrote_none, wrote_as}
use Rattle.dc_show.proofs.TextLemmas.{next_more, all_done}
use Rattle.dc_show.proofs.parts.write_strings.Goals as goal

pub loop-byte-init : goal.loop-byte-init
loop-byte-init g c = ([], wrote_none _ _ g.met.K.Sink.gained_both g.met.K.Sink.gained_none _ _, refl, Fated-none g.K.Sink.gained g.K.Sink.refused g.K.Sink.faults _ _)

pub loop-byte-preserved : goal.loop-byte-preserved
loop-byte-preserved g c =
    let so = c.loop-byte.invariant in
    let next = c.write_next-left.ensures.wrote in (
      so.0 ++ next.0,
      wrote_both _ _ g.met.K.Sink.gained_both so.1 next.1,
      next_more printed (map printed (strings 0 c.args.bytes.now)) so.0 next.0 c.args.bytes.now c.loop-byte.byte-index c.loop-byte.left c.write_next-left.result (omega arith) so.2 next.2,
      fared_both _ _ _ g.met.K.Sink.gained_both _ _ so.1 so.3 c.write_next-left.ensures.fared,
    )

pub returns-clause-wrote : goal.returns-clause-wrote
returns-clause-wrote g c =
    let so = c.loop-byte.invariant in
    wrote_as _ _ g.met.K.Sink.gained_both (all_done printed (map printed (strings 0 c.args.bytes.now)) so.0 c.args.bytes.now c.loop-byte.byte-index c.loop-byte.left (omega arith) so.2) so.1
