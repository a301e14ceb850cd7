use Rattle.dc_commands.proofs.Complete.{only_faults}
use Rattle.dc_commands.proofs.laws.only_faults_prevent_done.Goals as goal

pub returns : goal.returns
returns c = only_faults
