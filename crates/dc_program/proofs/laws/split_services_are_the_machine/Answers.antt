use Rattle.std.proofs.Common.{true, ◌∷◌, ◌++◌}
use Rattle.dc_event.specs.History.{listened}
use Rattle.dc_sock.proofs.ServiceLemmas.{runs_service}
use Rattle.dc_shards.specs.Cores.{machines}
use Rattle.dc_shards.specs.Serving.{split_machine, last_asks}
use Rattle.dc_program.proofs.laws.split_services_are_the_machine.Goals as goal

pub returns : goal.returns
returns g c = λ old new config cores seed limit status finals serving.
    let wake = (split_machine config).wake (machines finals) in
    let passed = listened config.ip config.ipsend true ∷ (serving.passed ++ last_asks status wake) in (
      serving.passed,
      (
        wake,
        (
          serving.bounded,
          (
            serving.acts,
            runs_service g.S.System.called g.met.S.System.called_none g.met.S.System.called_both old new passed serving.happened,
          ),
        ),
      ),
    )
