use Rattle.dc_sock.specs.World.{Explained-one}
use Rattle.dc_sock.proofs.world.SocketWorldWorld.next.Goals as goal

pub returns-clause-history : goal.returns-clause-history
returns-clause-history g c = Explained-one g.S.System.called _ _ _ c.tell.ensures.told
