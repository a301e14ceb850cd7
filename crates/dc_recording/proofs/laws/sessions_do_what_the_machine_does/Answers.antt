use Rattle.dc_recording.proofs.LawLemmas.{session_done}
use Rattle.dc_recording.proofs.laws.sessions_do_what_the_machine_does.Goals as goal

pub returns : goal.returns
returns c = session_done
