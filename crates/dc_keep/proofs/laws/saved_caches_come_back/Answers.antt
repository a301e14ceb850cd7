use Rattle.dc_keep.proofs.LawLemmas.{comes_back}
use Rattle.dc_keep.proofs.laws.saved_caches_come_back.Goals as goal

pub returns : goal.returns
returns c = comes_back
