use Rattle.dc_keep.proofs.LawLemmas.{only_faults}
use Rattle.dc_keep.proofs.laws.only_faults_prevent_keeping.Goals as goal

pub returns : goal.returns
returns g c = only_faults g.W.World.history
