use Rattle.std.proofs.Common.{◌++◌, true}
use Rattle.dc_sock.proofs.EdgeLemmas.{one_alone, some_later}
use Rattle.dc_sock.proofs.HandLemmas.{at_hand_both}
use Rattle.dc_sock.proofs.sockets.Sockets.look_on.Goals as goal

pub returns-then-retry-clause-hears : goal.returns-then-retry-clause-hears
returns-then-retry-clause-hears g c =
    let r = c.if-retry.ensures.hears in
    (r.0, (r.1.0, (λ wake. one_alone wake true _ _ r.0 _ (r.1.1.0 wake), r.1.1.1)))

pub returns-clause-hears : goal.returns-clause-hears
returns-clause-hears g c =
    let r = c.if-retry.ensures.hears in
    let h = c.hear.ensures.hears in (
      r.0 ++ h.0,
      (
        g.met.S.System.called_both _ _ _ _ _ r.1.0 h.1.0,
        (λ wake. some_later wake c.hear.result _ _ _ r.0 h.0 _ (r.1.1.0 wake) c.retry.ensures.log (h.1.1.0 wake), at_hand_both r.0 h.0 r.1.1.1 h.1.1.1),
      ),
    )
