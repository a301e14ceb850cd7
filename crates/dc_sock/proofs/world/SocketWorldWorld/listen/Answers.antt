use Rattle.std.proofs.Common.{true, false}
use Rattle.dc_event.specs.History.{listened}
use Rattle.dc_sock.specs.World.{Explained-one}
use Rattle.dc_sock.proofs.world.SocketWorldWorld.listen.Goals as goal

pub returns-then-begin-clause-history : goal.returns-then-begin-clause-history
returns-then-begin-clause-history g c =
    Explained-one g.S.System.called _ _ (listened c.args.addr c.args.send_from true) c.if-begin.ensures.listened

pub returns-else-begin-clause-history : goal.returns-else-begin-clause-history
returns-else-begin-clause-history g c =
    Explained-one g.S.System.called _ _ (listened c.args.addr c.args.send_from false) c.if-begin.ensures.listened
