use Rattle.dc_name.proofs.WireLemmas.{same_test, same-bytes, bytes-same}
use Rattle.dc_name.proofs.wire.same_wire.Goals as goal

pub returns : goal.returns
returns c =
    same_test _ _
    (λ h. same-bytes c.args.a.now c.args.b.now c.requires.a c.requires.b (c.eq_ignore_ascii_case.ensures.test.0 h))
    (λ h. c.eq_ignore_ascii_case.ensures.test.1 (bytes-same c.args.a.now c.args.b.now c.requires.a c.requires.b h))
