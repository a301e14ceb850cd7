use Rattle.dc_record.proofs.PlainLemmas.{recorded_said}
use Rattle.dc_record.proofs.laws.recorded_events_read_back.Goals as goal

pub returns : goal.returns
returns c = recorded_said
