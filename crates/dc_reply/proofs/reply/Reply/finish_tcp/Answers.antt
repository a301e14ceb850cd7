use Rattle.std.proofs.Common.{◌≡◌, ◌∙◌, ◌+◌, ◌++◌, ℕ, List, length, refl, ap, arith}
use Rattle.dc_model.specs.Message.{u16}
use Rattle.dc_model.specs.Reply.{header}
use Rattle.dc_reply.proofs.FinishLemmas.{framed-is, tcp-is, message-is, reads}
use Rattle.dc_reply.proofs.reply.Reply.finish_tcp.Goals as goal

pub returns : goal.returns
returns c =
    let whole : List ℕ = c.framed.result.now in
    let bytes : List ℕ = c.self.inside.writer.written.bytes in
    let n : ℕ = 12 + c.len-len.result in
    let is : whole ≡ (u16 n ++ header c.self.inside.id c.self.inside.flags c.self.inside.count) ++ bytes =
    framed-is whole c.front.result c.set_front.new.self c.self.inside.writer.written n c.self.inside.id c.self.inside.flags c.self.inside.count c.set_front.ensures c.front.ensures c.framed.ensures in
    let size = ap length is in (
      (refl, λ _. tt, refl),
      record {
        bytes = λ r e. tcp-is r _ whole n (c.self.view_is ∙ e) (omega (arith, c.len-len.ensures.len)) is;
        most = omega (arith, c.self.invariant.whole);
        reads_back = λ r e h. reads r _ (message-is r _ whole n (c.self.view_is ∙ e) is) h;
        finished = tt;
      },
    )
