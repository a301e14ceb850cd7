use Rattle.std.proofs.Common.{ap, sym}
use Rattle.dc_writer.specs.Fated.{Fated-none}
use Rattle.dc_writer.proofs.Writing.{wrote_as, wrote_none}
use Rattle.dc_script.specs.View.{rest_text}
use Rattle.dc_script.proofs.write.write_rest.Goals as goal

pub returns-in-Nothing-clause-wrote : goal.returns-in-Nothing-clause-wrote
returns-in-Nothing-clause-wrote g c =
    let b = g.met.K.Sink.gained_both in
    wrote_as _ _ b (ap rest_text (sym c.in-Nothing.is)) (wrote_none _ _ b g.met.K.Sink.gained_none _ _)

pub returns-in-Nothing-clause-fared : goal.returns-in-Nothing-clause-fared
returns-in-Nothing-clause-fared g c = Fated-none g.K.Sink.gained g.K.Sink.refused g.K.Sink.faults _ _
