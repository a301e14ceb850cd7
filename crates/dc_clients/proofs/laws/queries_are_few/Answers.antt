use Rattle.dc_clients.proofs.Few.{queries_few}
use Rattle.dc_clients.proofs.laws.queries_are_few.Goals as goal

pub returns : goal.returns
returns c = queries_few
