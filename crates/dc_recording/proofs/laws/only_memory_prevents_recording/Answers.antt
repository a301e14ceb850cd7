use Rattle.dc_recording.proofs.LawLemmas.{only_memory}
use Rattle.dc_recording.proofs.laws.only_memory_prevents_recording.Goals as goal

pub returns : goal.returns
returns g c = only_memory g.W.World.history g.K.Sink.gained
