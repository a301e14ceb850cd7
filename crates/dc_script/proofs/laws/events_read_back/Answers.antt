use Rattle.dc_script.proofs.EventLemmas.{events-text}
use Rattle.dc_script.proofs.laws.events_read_back.Goals as goal

pub returns : goal.returns
returns c = events-text
