use Rattle.std.proofs.Common.{[], map}
use Rattle.dc_packet.specs.Data as read
use Rattle.dc_reply.specs.Bodies.{body_of}
use Rattle.dc_machine.specs.Turn.{reply_of, answer_of}
use Rattle.dc_frames.specs.View.{query_of}
use Rattle.dc_answer.proofs.Making.{Replies-begun}
use Rattle.dc_answer.proofs.Found.{found_exceeds}
use Rattle.dc_answer.proofs.ItemsLemmas.{Taken-more, Taken-exceeds}
use Rattle.dc_answer.proofs.items.reply_items.Goals as goal

pub returns-then-not-begin : goal.returns-then-not-begin
returns-then-not-begin c =
    found_exceeds (query_of c.args.query.now) [] (map (answer_of (query_of c.args.query.now) c.args.kind c.args.ttl) c.args.items) c.begin.new.reply _ c.if-not-begin.ensures

pub rr-requires : goal.rr-requires
rr-requires c =
    Replies-begun c.loop-data.reply (reply_of (query_of c.args.query.now) (map (answer_of (query_of c.args.query.now) c.args.kind c.args.ttl) c.loop-data.invariant.taken)) c.loop-data.invariant.made

pub returns-then-not-rr : goal.returns-then-not-rr
returns-then-not-rr c =
    Taken-exceeds (query_of c.args.query.now) c.args.kind c.args.ttl c.args.items c.next_item.new.self c.loop-data.items c.loop-data.reply c.loop-data.invariant
    c.name.result.now (body_of c.lent.result) (read.body_of c.in-Some.data) c.rr.new.self c.rr.new.self
    c.in-Some.ensures c.lent.ensures c.name.ensures c.if-not-rr.ensures.fits c.if-not-rr.ensures.added

pub loop-data-preserved : goal.loop-data-preserved
loop-data-preserved c =
    Taken-more (query_of c.args.query.now) c.args.kind c.args.ttl c.args.items c.next_item.new.self c.loop-data.items c.loop-data.reply c.loop-data.invariant
    c.name.result.now (body_of c.lent.result) (read.body_of c.in-Some.data) c.rr.new.self
    c.in-Some.ensures c.lent.ensures c.name.ensures c.if-not-rr.ensures.fits c.if-not-rr.ensures.added
