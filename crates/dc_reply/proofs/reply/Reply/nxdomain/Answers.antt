use Rattle.std.proofs.Common.{◌∙◌, ap, sym}
use Rattle.dc_reply.specs.Draft.{Draft}
use Rattle.dc_reply.proofs.DraftLemmas.{draft-flags}
use Rattle.dc_reply.proofs.reply.Reply.nxdomain.Goals as goal

pub returns-clause-reply : goal.returns-clause-reply
returns-clause-reply c r e =
    ap (λ (d : Draft). record { begun = d.begun; id = d.id; flags = 34179; count = d.count; asked = d.asked; written = d.written }) c.self.view_is
    ∙ sym (draft-flags r c.args.self.now 34179 e)
