use Rattle.dc_script.proofs.HeadTextLemmas.{script_read}
use Rattle.dc_script.proofs.laws.script_reads_back.Goals as goal

pub returns : goal.returns
returns c = script_read
