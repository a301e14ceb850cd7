use Rattle.dc_resolve.proofs.TestLemmas.{begun}
use Rattle.dc_resolve.proofs.tests.begin.Goals as goal

pub returns : goal.returns
returns g c = begun _ _ _ _ _ _ _ _ c.start.ensures.turn
