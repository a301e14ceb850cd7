use Rattle.dc_sock.proofs.TurnLemmas.{fresh_in_order}
use Rattle.dc_sock.proofs.laws.nothing_is_ready_at_first.Goals as goal

pub returns : goal.returns
returns g c = λ system port w f. fresh_in_order system port w f
