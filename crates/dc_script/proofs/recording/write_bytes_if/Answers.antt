use Rattle.dc_writer.proofs.Faring.{fared_both}
use Rattle.dc_writer.proofs.Writing.{wrote_as, wrote_both}
use Rattle.dc_script.specs.Text.{bytes_text}
use Rattle.dc_script.proofs.RecordingLemmas.{spaced_one}
use Rattle.dc_script.proofs.recording.write_bytes_if.Goals as goal

pub returns-then-wanted-clause-wrote : goal.returns-then-wanted-clause-wrote
returns-then-wanted-clause-wrote g c =
    let b = g.met.K.Sink.gained_both in
    wrote_as _ _ b (spaced_one c.args.wanted (bytes_text c.args.bytes.now) c.if-wanted.true) (wrote_both _ _ b c.put.ensures.wrote c.write_rest.ensures.wrote)

pub returns-then-wanted-clause-fared : goal.returns-then-wanted-clause-fared
returns-then-wanted-clause-fared g c =
    fared_both _ _ _ g.met.K.Sink.gained_both _ _ c.put.ensures.wrote c.put.ensures.fared c.write_rest.ensures.fared
