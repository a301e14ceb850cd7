use Rattle.dc_resolve.proofs.TestLemmas.{begun}
use Rattle.dc_resolve.proofs.tests.go_on.Goals as goal

pub returns : goal.returns
returns g c = begun _ _ _ _ _ _ _ _ c.event.ensures.turn
