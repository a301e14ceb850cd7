use Rattle.dc_script.proofs.EventLemmas.{event-text}
use Rattle.dc_script.proofs.laws.event_reads_back.Goals as goal

pub returns : goal.returns
returns c = event-text
