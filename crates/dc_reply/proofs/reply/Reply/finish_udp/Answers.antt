use Rattle.std.proofs.Common.{◌≡◌, ◌∙◌, ◌+◌, ◌-◌, ◌++◌, ℕ, List, length, drop, refl, ap, arith}
use Rattle.dc_model.specs.Message.{u16}
use Rattle.dc_model.specs.Reply.{header}
use Rattle.dc_reply.proofs.FinishLemmas.{framed-is, length-reply_bytes, behind-frame, message-is, reads, udp-whole, udp-cut, cut-reads, length-take-most}
use Rattle.dc_reply.proofs.reply.Reply.finish_udp.Goals as goal

pub returns-then-len-le-LONGEST_DATAGRAM : goal.returns-then-len-le-LONGEST_DATAGRAM
returns-then-len-le-LONGEST_DATAGRAM c =
    let whole : List ℕ = c.framed.result.now in
    let bytes : List ℕ = c.self.inside.writer.written.bytes in
    let n : ℕ = 12 + c.len-len.result in
    let is : whole ≡ (u16 n ++ header c.self.inside.id c.self.inside.flags c.self.inside.count) ++ bytes =
    framed-is whole c.front.result c.set_front.new.self c.self.inside.writer.written n c.self.inside.id c.self.inside.flags c.self.inside.count c.set_front.ensures c.front.ensures c.framed.ensures in
    let size = ap length is in
    let least = length-take-most (length whole - 2) (drop 2 whole) in (
      (refl, λ _. tt, refl),
      record {
        bytes = λ r e. udp-whole r _ whole n (c.self.view_is ∙ e) (omega (arith, c.len-len.ensures.len)) is;
        short = omega (arith, c.len-len.ensures.len);
        reads_back = λ r e h s. reads r _ (behind-frame whole ∙ message-is r _ whole n (c.self.view_is ∙ e) is) h;
        cut_reads_back = λ r e h s. absurd (omega (arith, length-reply_bytes r _ (c.self.view_is ∙ e), c.len-len.ensures.len));
        finished = tt;
      },
    )

pub returns : goal.returns
returns c =
    let whole : List ℕ = c.framed-2.result.now in
    let bytes : List ℕ = c.self.inside.writer.written.bytes in
    let n : ℕ = 12 + c.len-len.result in
    let is : whole ≡ (u16 n ++ header c.self.inside.id (c.self.inside.flags + 512) 0) ++ bytes =
    framed-is whole c.front-2.result c.set_front-2.new.self c.self.inside.writer.written n c.self.inside.id (c.self.inside.flags + 512) 0 c.set_front-2.ensures c.front-2.ensures c.framed-2.ensures in
    let least = length-take-most (14 + c.self.inside.asked - 2) (drop 2 whole) in (
      (refl, λ _. tt, refl),
      record {
        bytes = λ r e. udp-cut r _ whole n (c.self.view_is ∙ e) (omega (arith, c.len-len.ensures.len)) is;
        short = omega (arith, c.self.invariant.short);
        reads_back = λ r e h s. absurd (omega (arith, length-reply_bytes r _ (c.self.view_is ∙ e), c.len-len.ensures.len));
        cut_reads_back = λ r e h s. cut-reads r _ whole n (c.self.view_is ∙ e) c.self.invariant.response is h;
        finished = tt;
      },
    )
