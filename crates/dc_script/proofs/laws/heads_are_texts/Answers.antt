use Rattle.dc_script.proofs.HeadBack.{head_back}
use Rattle.dc_script.proofs.laws.heads_are_texts.Goals as goal

pub returns : goal.returns
returns c = head_back
