use Rattle.dc_script.specs.Head.{head_of}
use Rattle.dc_commands.proofs.Complete.{whole_done}
use Rattle.dc_commands.proofs.laws.whole_scripts_come_to_done.Goals as goal

pub returns : goal.returns
returns c = λ text h events limit e few. whole_done (head_of text) h events limit e few
