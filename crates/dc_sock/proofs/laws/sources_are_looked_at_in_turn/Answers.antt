use Rattle.dc_sock.proofs.TurnLemmas.{looks_in_turn}
use Rattle.dc_sock.proofs.laws.sources_are_looked_at_in_turn.Goals as goal

pub returns : goal.returns
returns g c = λ a b xs n p. looks_in_turn g.S.System.called g.met.S.System.called_none g.met.S.System.called_both a b xs n p
