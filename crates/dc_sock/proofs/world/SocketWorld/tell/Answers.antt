use Rattle.std.proofs.Common.{None}
use Rattle.dc_sock.specs.Edge.{edge_of}
use Rattle.dc_sock.specs.World.{asked_from}
use Rattle.dc_sock.proofs.world.SocketWorld.tell.Goals as goal

pub returns-clause-told : goal.returns-clause-told
returns-clause-told g c =
    let e = c.hear-answer.ensures.gave in
    asked_from g.S.System.called _ _ _ c.args.wake c.hear-answer.result c.hear-answer.new.inbox c.hear-answer.new.system (edge_of None c.hear-answer.new.sockets) e.0 c.self.view_is e.1.0 e.1.1 c.note.ensures.note
