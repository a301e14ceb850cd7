use Rattle.dc_sim.specs.Asking.{question_by}
use Rattle.dc_sim.specs.Replies.{content_by}
use Rattle.dc_sim.proofs.ReplyLemmas.{answer_written}
use Rattle.dc_sim.proofs.answer.Asked.answer.Goals as goal

pub returns-clause-items : goal.returns-clause-items
returns-clause-items c =
    let s = c.shape.result in
    rw (c.put_records.ensures.items, c.put_head.ensures.items, c.new-out.ensures)
    (answer_written c.args.self.now.id (question_by c.args.self.now) (content_by c.args.reply.now) s.flags s.answer s.authority s.additional
    c.shape.ensures.flags c.shape.ensures.answer c.shape.ensures.authority c.shape.ensures.additional)
