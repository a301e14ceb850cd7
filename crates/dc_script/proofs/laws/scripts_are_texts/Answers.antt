use Rattle.dc_script.proofs.ScriptBack.{script_back}
use Rattle.dc_script.proofs.laws.scripts_are_texts.Goals as goal

pub returns : goal.returns
returns c = script_back
