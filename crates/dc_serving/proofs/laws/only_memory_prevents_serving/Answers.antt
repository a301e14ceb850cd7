use Rattle.dc_serving.proofs.Complete.{only_memory}
use Rattle.dc_serving.proofs.laws.only_memory_prevents_serving.Goals as goal

pub returns : goal.returns
returns c = only_memory
