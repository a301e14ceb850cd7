use Rattle.std.proofs.Common.{true, subst, ap, ◌≡◌, ◌≤◌, length, arith, List, ℕ}
use Rattle.dc_model.specs.Name.{wire}
use Rattle.dc_model.specs.Message.{Request}
use Rattle.dc_model.specs.Reply.{reply_to}
use Rattle.dc_packet.specs.Question.{asked}
use Rattle.dc_answer.specs.Replies.{Replies}
use Rattle.dc_answer.proofs.Making.{Replies-asked}
use Rattle.dc_answer.proofs.begin.ask.Goals as goal

pub returns : goal.returns
returns c =
    let r : Request = asked c.request-request.result.now in
    let size : length c.wire-most_255_bytes.result.now ≡ length (wire r.name) = ap (λ (bs : List ℕ). length bs) c.wire-most_255_bytes.ensures.bytes in
    let most : length (wire r.name) ≤ 255 = omega (arith, c.wire-most_255_bytes.ensures.most) in
    subst (λ (s : Request). Replies true c.start.new.self (reply_to s)) c.request-request.ensures
    (Replies-asked c.start.new.self r c.start.ensures.reply most)
