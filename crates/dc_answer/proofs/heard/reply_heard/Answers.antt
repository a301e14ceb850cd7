use Rattle.std.proofs.Common.{true, [], List, subst, arith}
use Rattle.dc_model.specs.Reply.{Answer}
use Rattle.dc_machine.specs.Query as machine
use Rattle.dc_machine.specs.Turn.{reply_of, heard_answers}
use Rattle.dc_frames.specs.View.{query_of}
use Rattle.dc_answer.specs.Replies.{Replies}
use Rattle.dc_answer.proofs.Found.{found_exceeds}
use Rattle.dc_answer.proofs.HeardLemmas.{first_heard-none, first_heard-all, first_heard-exceed}
use Rattle.dc_answer.proofs.heard.reply_heard.Goals as goal

pub returns-then-not-begin : goal.returns-then-not-begin
returns-then-not-begin c =
    found_exceeds (query_of c.args.query.now) [] (heard_answers (query_of c.args.query.now) c.args.message.now) c.begin.new.reply _ c.if-not-begin.ensures

pub loop-i-init : goal.loop-i-init
loop-i-init c =
    let q : machine.Query = query_of c.args.query.now in
    subst (λ (xs : List Answer). Replies true c.begin.new.reply (reply_of q xs)) (first_heard-none q c.args.message.now) c.if-not-begin.ensures

pub returns-then-not-add_record : goal.returns-then-not-add_record
returns-then-not-add_record c =
    first_heard-exceed (query_of c.args.query.now) c.args.message.now _ c.add_record.new.reply _ c.if-not-add_record.ensures

pub returns : goal.returns
returns c =
    let q : machine.Query = query_of c.args.query.now in
    subst (λ (xs : List Answer). Replies true c.loop-i.reply (reply_of q xs)) (first_heard-all q c.args.message.now c.loop-i.i (omega arith)) c.loop-i.invariant
