use Rattle.dc_recording.proofs.LawLemmas.{recorded_said, recorded_plays}
use Rattle.dc_recording.proofs.laws.recorded_runs_replay.Goals as goal

pub returns-clause-script : goal.returns-clause-script
returns-clause-script c = recorded_said

pub returns-clause-outcome : goal.returns-clause-outcome
returns-clause-outcome c = recorded_plays
