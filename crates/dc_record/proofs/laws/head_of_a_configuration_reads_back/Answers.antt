use Rattle.dc_script.proofs.HeadTextLemmas.{head_read}
use Rattle.dc_record.specs.HeadOf.{told_of}
use Rattle.dc_record.proofs.laws.head_of_a_configuration_reads_back.Goals as goal

pub returns : goal.returns
returns c = λ config seed told tail. head_read (told_of config seed) config.permit config.zones told tail
