use Rattle.dc_sock.proofs.ServiceLemmas.{runs_service}
use Rattle.dc_serving.specs.Serving.{session_passes}
use Rattle.dc_program.proofs.laws.services_are_the_machine.Goals as goal

pub returns : goal.returns
returns g c = λ old new env tree taken left limit status core session.
    let serving = session.3 in
    let passed = session_passes session.0 taken serving.events status in
    (session.0, (session.1, (serving.events, (serving.bounded, runs_service g.S.System.called g.met.S.System.called_none g.met.S.System.called_both old new passed serving.passed))))
