use Rattle.dc_tools.proofs.Complete.{answered_done}
use Rattle.dc_tools.proofs.laws.answered_words_are_done.Goals as goal

pub returns : goal.returns
returns g c = λ status l text count limit world. answered_done status l text count limit (g.W.World.used_up world) (g.W.World.broken world)
