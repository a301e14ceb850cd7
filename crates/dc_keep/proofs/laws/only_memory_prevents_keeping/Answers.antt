use Rattle.dc_keep.proofs.LawLemmas.{only_memory}
use Rattle.dc_keep.proofs.laws.only_memory_prevents_keeping.Goals as goal

pub returns : goal.returns
returns g c = only_memory g.W.World.history
