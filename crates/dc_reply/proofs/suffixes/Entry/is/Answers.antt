use Rattle.std.proofs.Common.{◌∙◌, ap, take}
use Rattle.dc_model.specs.Name.{lower, name_eq}
use Rattle.dc_model.specs.Reply.{Suffix}
use Rattle.dc_reply.proofs.EntryLemmas.{test-is}
use Rattle.dc_reply.proofs.suffixes.Entry.is.Goals as goal

pub returns : goal.returns
returns c =
    test-is (take c.self.inside.len c.self.inside.wire) c.wire.result.now c.args.name.now c.eq_ignore_ascii_case.result c.self.invariant.0 c.wire.ensures.name c.wire.ensures.bytes
    c.eq_ignore_ascii_case.ensures.test.0 c.eq_ignore_ascii_case.ensures.test.1
    ∙ ap (λ (s : Suffix). name_eq s.name (lower c.args.name.now)) c.self.view_is
