use Rattle.dc_sock.proofs.ServiceLemmas.{runs_service}
use Rattle.dc_serving.specs.Serving.{passes_from}
use Rattle.dc_program.proofs.laws.kept_services_are_the_machine.Goals as goal

pub returns : goal.returns
returns g c = λ old new config first seed limit status core serving.
    let passed = passes_from config first seed serving.events status in
    (serving.events, (serving.bounded, runs_service g.S.System.called g.met.S.System.called_none g.met.S.System.called_both old new passed serving.passed))
