use Rattle.dc_sock.proofs.AnswerLemmas.{fresh_numbered, run_numbered}
use Rattle.dc_sock.proofs.laws.places_are_numbered.Goals as goal

pub returns-clause-fresh : goal.returns-clause-fresh
returns-clause-fresh g c = λ system port w f. fresh_numbered system port w f

pub returns-clause-kept : goal.returns-clause-kept
returns-clause-kept g c = λ a b xs o p. run_numbered g.S.System.called a b xs o p
