use Rattle.std.proofs.Common.{[], refl, ◌+◌, ◌*◌, ◌/◌}
use Rattle.dc_model.specs.Reply.{Reply}
use Rattle.dc_machine.specs.Turn.{reply_of}
use Rattle.dc_frames.specs.View.{query_of}
use Rattle.dc_answer.proofs.Making.{Replies-begun, Replies-with_flags, Replies-no_flags}
use Rattle.dc_answer.proofs.one.reply_failure.Goals as goal

pub returns-then-not-begin : goal.returns-then-not-begin
returns-then-not-begin c =
    let r : Reply = reply_of (query_of c.args.query.now) [] in
    Replies-no_flags c.begin.new.reply _ (16 * (r.flags / 16) + 2) r c.if-not-begin.ensures

pub servfail-requires : goal.servfail-requires
servfail-requires c = Replies-begun c.begin.new.reply (reply_of (query_of c.args.query.now) []) c.if-not-begin.ensures

pub returns : goal.returns
returns c =
    let r : Reply = reply_of (query_of c.args.query.now) [] in
    Replies-with_flags c.begin.new.reply c.servfail.new.self (16 * (r.flags / 16) + 2) r c.if-not-begin.ensures
    (c.servfail.ensures.reply r (c.if-not-begin.ensures.draft refl))
