use Rattle.std.proofs.Common.{refl}
use Rattle.dc_sock.specs.World.{more_from}
use Rattle.dc_sock.proofs.world.SocketWorld.gather.Goals as goal

pub returns-clause-passed : goal.returns-clause-passed
returns-clause-passed g c =
    let e = c.further.ensures.gave in
    more_from g.S.System.called _ _ _ c.further.result c.further.new.inbox e.0 c.self.view_is e.1.0 e.1.1 refl
