use Rattle.std.proofs.Common.{[], ◌∷◌}
use Rattle.dc_machine.specs.Turn.{reply_of, answer_of}
use Rattle.dc_reply.specs.Bodies.{body_of}
use Rattle.dc_frames.specs.View.{query_of}
use Rattle.dc_answer.proofs.Making.{Replies-begun}
use Rattle.dc_answer.proofs.Found.{found_added, found_exceeds}
use Rattle.dc_answer.proofs.one.reply_one.Goals as goal

pub returns-then-not-begin : goal.returns-then-not-begin
returns-then-not-begin c =
    found_exceeds (query_of c.args.query.now) [] (answer_of (query_of c.args.query.now) c.args.kind c.args.ttl (body_of c.args.body) ∷ []) c.begin.new.reply _
    c.if-not-begin.ensures

pub rr-requires : goal.rr-requires
rr-requires c = Replies-begun c.begin.new.reply (reply_of (query_of c.args.query.now) []) c.if-not-begin.ensures

pub returns : goal.returns
returns c =
    found_added (query_of c.args.query.now) [] c.name.result.now c.args.kind c.args.ttl (body_of c.args.body) c.rr.result c.begin.new.reply c.rr.new.self
    c.name.ensures c.if-not-begin.ensures c.rr.ensures.fits c.rr.ensures.added
