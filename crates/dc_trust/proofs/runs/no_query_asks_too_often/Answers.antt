use Rattle.dc_trust.proofs.Running.{run_asks}
use Rattle.dc_trust.proofs.runs.no_query_asks_too_often.Goals as goal

pub returns : goal.returns
returns c = run_asks
