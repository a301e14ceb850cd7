use Rattle.dc_recording.proofs.LawLemmas.{only_faults}
use Rattle.dc_recording.proofs.laws.only_faults_prevent_recording.Goals as goal

pub returns : goal.returns
returns g c = only_faults g.W.World.history g.K.Sink.gained
