use Rattle.dc_recording.proofs.LawLemmas.{plain_run}
use Rattle.dc_recording.proofs.laws.plain_events_do_the_same.Goals as goal

pub returns : goal.returns
returns c = plain_run
