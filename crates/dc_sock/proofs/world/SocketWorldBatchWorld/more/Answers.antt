use Rattle.dc_sock.specs.World.{Explained-more}
use Rattle.dc_sock.proofs.world.SocketWorldBatchWorld.more.Goals as goal

pub returns-clause-history : goal.returns-clause-history
returns-clause-history g c = Explained-more g.S.System.called _ _ c.gather.result c.gather.new.inbox c.gather.ensures.passed
