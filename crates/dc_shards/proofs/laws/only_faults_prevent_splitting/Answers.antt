use Rattle.dc_shards.proofs.StatusLemmas.{only_faults_split}
use Rattle.dc_shards.proofs.laws.only_faults_prevent_splitting.Goals as goal

pub returns : goal.returns
returns c = only_faults_split
