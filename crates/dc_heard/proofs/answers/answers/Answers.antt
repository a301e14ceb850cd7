use Rattle.std.proofs.Common.{[], sym, ◌∙◌, subst}
use Rattle.dc_model.specs.Reply.{Reply}
use Rattle.dc_frames.specs.View.{query_of}
use Rattle.dc_machine.specs.Turn.{State, Row, reply_of, heard_answers}
use Rattle.dc_heard.specs.Quiet.{Leads}
use Rattle.dc_heard.proofs.Leading.{leads_reply, answers_lowest}
use Rattle.dc_heard.proofs.answers.answers.Goals as goal

pub returns-then-is_lowest : goal.returns-then-is_lowest
returns-then-is_lowest c = λ cache n.
    let s : State = record { query = query_of c.args.query.now; cache = cache; links = n } in
    let r : Reply = reply_of s.query (heard_answers s.query c.args.message.now) in
    subst (λ (x : Row). Leads x s.query c.reply_heard.new.reply c.replied.result)
    (sym (answers_lowest c.args.message.now s (sym c.is_lowest.ensures ∙ c.if-is_lowest.true)))
    (leads_reply r s c.reply_heard.new.reply c.replied.result (c.replied.ensures c.reply_heard.new.reply r [] s c.reply_heard.ensures.fits c.reply_heard.ensures.draft))
