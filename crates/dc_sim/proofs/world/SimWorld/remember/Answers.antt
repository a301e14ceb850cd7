use Rattle.std.proofs.Common.{refl}
use Rattle.dc_sim.proofs.world.SimWorld.remember.Goals as goal

pub returns : goal.returns
returns c = rw (← c.self.view_is, c.push_front.ensures.items, c.new.ensures, c.self.invariant.remembers) refl
