use Rattle.std.proofs.Common.{[], refl, Some}
use Rattle.dc_sock.specs.Edge.{edge_of}
use Rattle.dc_sock.proofs.EdgeLemmas.{tried_one}
use Rattle.dc_sock.proofs.HandLemmas.{heard_at_hand}
use Rattle.dc_sock.proofs.RoundLemmas.{no_pass}
use Rattle.dc_sock.proofs.sockets.Sockets.retry.Goals as goal

pub returns-then-not-is_late-clause-hears : goal.returns-then-not-is_late-clause-hears
returns-then-not-is_late-clause-hears g c = ([], (g.met.S.System.called_none _, (λ wake. no_pass (edge_of (Some c.args.now) c.args.self.now), tt)))

pub returns-clause-hears : goal.returns-clause-hears
returns-clause-hears g c =
    let h = c.hear_one.ensures.hears in (
      h.0,
      (
        h.1.0,
        (
          λ wake. tried_one wake c.hear_one.result c.hear_one.new.inbox c.token_of.result c.args.now (edge_of (Some c.args.now) c.args.self.now) h.0 _ c.token_of.ensures
              (c.is_late.ensures.late c.if-not-is_late.false) refl h.1.1,
          heard_at_hand c.hear_one.result c.hear_one.new.inbox c.token_of.result c.args.now _ h.0 _ h.1.1,
        ),
      ),
    )
