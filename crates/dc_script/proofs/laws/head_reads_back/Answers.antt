use Rattle.dc_script.proofs.HeadTextLemmas.{head_read}
use Rattle.dc_script.proofs.laws.head_reads_back.Goals as goal

pub returns : goal.returns
returns c = head_read
