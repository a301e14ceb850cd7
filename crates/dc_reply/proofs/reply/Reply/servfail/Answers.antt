use Rattle.std.proofs.Common.{◌≡◌, ◌∙◌, ◌+◌, ◌*◌, ◌/◌, ℕ, ap, sym}
use Rattle.dc_reply.specs.Draft.{Draft}
use Rattle.dc_reply.proofs.DraftLemmas.{draft-flags, draft-flags_are}
use Rattle.dc_reply.proofs.reply.Reply.servfail.Goals as goal

pub returns-clause-reply : goal.returns-clause-reply
returns-clause-reply c r e =
    let now : Draft = c.args.self.now in
    let same_flags : c.self.inside.flags ≡ r.flags = ap (λ (d : Draft). d.flags) c.self.view_is ∙ sym (draft-flags_are r now e) in
    ap (λ (d : Draft). record { begun = d.begun; id = d.id; flags = 16 * (c.self.inside.flags / 16) + 2; count = d.count; asked = d.asked; written = d.written }) c.self.view_is
    ∙ ap (λ (f : ℕ). record { begun = now.begun; id = now.id; flags = 16 * (f / 16) + 2; count = now.count; asked = now.asked; written = now.written }) same_flags
    ∙ sym (draft-flags r now (16 * (r.flags / 16) + 2) e)
