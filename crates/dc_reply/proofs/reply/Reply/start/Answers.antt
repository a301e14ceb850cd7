use Rattle.std.proofs.Common.{◌∙◌, ap, sym, true, ℕ}
use Rattle.dc_reply.proofs.DraftLemmas.{draft-start}
use Rattle.dc_reply.proofs.reply.Reply.start.Goals as goal

pub returns-clause-reply : goal.returns-clause-reply
returns-clause-reply c =
    ap (λ (n : ℕ). record { begun = true; id = c.args.id; flags = 33152; count = 0; asked = n; written = c.question.new.self.written }) c.len-self-inside.ensures.len
    ∙ sym (draft-start (record { id = c.args.id; name = c.args.name.now; kind = c.args.qtype; class = c.args.qclass }) c.question.new.self.written c.question.ensures.written)
