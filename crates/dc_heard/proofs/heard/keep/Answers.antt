use Rattle.std.proofs.Common.{refl}
use Rattle.dc_model.specs.Puts.{all_put, puts_given, lines_given}
use Rattle.dc_heard.proofs.heard.keep.Goals as goal

pub returns-in-Lame-clause-store : goal.returns-in-Lame-clause-store
unfolding all_put puts_given
returns-in-Lame-clause-store g c = rw c.in-Lame.is refl

pub returns-in-Lame-clause-acts : goal.returns-in-Lame-clause-acts
unfolding lines_given
returns-in-Lame-clause-acts g c = rw c.in-Lame.is (g.met.O.Effects.acted_none _)
