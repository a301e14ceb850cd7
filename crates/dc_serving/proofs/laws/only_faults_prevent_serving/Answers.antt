use Rattle.dc_serving.proofs.Complete.{only_faults}
use Rattle.dc_serving.proofs.laws.only_faults_prevent_serving.Goals as goal

pub returns : goal.returns
returns c = only_faults
