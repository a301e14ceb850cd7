use Rattle.std.proofs.Common.{refl, true}
use Rattle.dc_event.specs.History.{listened}
use Rattle.dc_sock.specs.Passed.{exchanged}
use Rattle.dc_sock.specs.World.{deaf_from, accounted_from}
use Rattle.dc_sock.proofs.world.SocketWorld.begin.Goals as goal

pub returns-then-not-listen-clause-listened : goal.returns-then-not-listen-clause-listened
returns-then-not-listen-clause-listened g c =
    let e = c.listen.ensures in
    deaf_from g.S.System.called _ _ c.args.addr c.args.send_from _ _ _ e.0 c.self.view_is e.1.0 (rw c.if-not-listen.true at e.1.1) c.saturating_add-self-inside.ensures

pub returns-clause-listened : goal.returns-clause-listened
returns-clause-listened g c =
    let e = c.listen.ensures in
    accounted_from g.S.System.called _ _ _ (exchanged (listened c.args.addr c.args.send_from true)) e.0 c.self.view_is e.1.0 (rw c.if-not-listen.false at e.1.1, refl)
