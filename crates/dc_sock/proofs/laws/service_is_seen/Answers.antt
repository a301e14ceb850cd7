use Rattle.dc_sock.proofs.ServiceLemmas.{runs_service}
use Rattle.dc_sock.proofs.laws.service_is_seen.Goals as goal

pub returns : goal.returns
returns g c = λ a b xs p. runs_service g.S.System.called g.met.S.System.called_none g.met.S.System.called_both a b xs p
