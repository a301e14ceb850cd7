use Rattle.std.proofs.Common.{◌∷◌, [], ◌∙◌, sym, refl, None, Some}
use Rattle.dc_system.specs.Call as call
use Rattle.dc_sock.specs.Edge.{edge_of}
use Rattle.dc_sock.proofs.HandLemmas.{further_idle, further_blind, further_gave}
use Rattle.dc_sock.proofs.sockets.Sockets.further.Goals as goal

pub returns-then-has_failed-clause-gave : goal.returns-then-has_failed-clause-gave
returns-then-has_failed-clause-gave g c =
    ([], (g.met.S.System.called_none _, further_idle (edge_of None c.args.self.now) refl (sym c.has_failed.ensures ∙ c.if-has_failed.true)))

pub returns-in_default-clause-gave : goal.returns-in_default-clause-gave
returns-in_default-clause-gave g c =
    (call.now None ∷ [], (c.in_default.ensures.called, further_blind (edge_of None c.args.self.now) refl refl))

pub returns-clause-gave : goal.returns-clause-gave
returns-clause-gave g c =
    let l = c.look_on.ensures.hears in (
      call.now (Some c.in-Some.now) ∷ l.0,
      (
        g.met.S.System.called_then _ _ _ _ _ c.in-Some.ensures.called l.1.0,
        further_gave c.look_on.result c.look_on.new.inbox (edge_of None c.args.self.now) c.in-Some.now l.0 (edge_of (Some c.in-Some.now) c.look_on.new.self) refl (sym c.has_failed.ensures ∙ c.if-has_failed.false)
            c.look_on.ensures.tried c.look_on.ensures.last (l.1.1.0 None) l.1.1.1,
      ),
    )
