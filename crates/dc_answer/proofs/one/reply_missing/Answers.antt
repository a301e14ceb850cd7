use Rattle.std.proofs.Common.{[], refl}
use Rattle.dc_model.specs.Reply.{Reply}
use Rattle.dc_machine.specs.Turn.{reply_of}
use Rattle.dc_frames.specs.View.{query_of}
use Rattle.dc_answer.proofs.Making.{Replies-begun, Replies-with_flags, Replies-no_flags}
use Rattle.dc_answer.proofs.one.reply_missing.Goals as goal

pub returns-then-not-begin : goal.returns-then-not-begin
returns-then-not-begin c = Replies-no_flags c.begin.new.reply _ 34179 (reply_of (query_of c.args.query.now) []) c.if-not-begin.ensures

pub nxdomain-requires : goal.nxdomain-requires
nxdomain-requires c = Replies-begun c.begin.new.reply (reply_of (query_of c.args.query.now) []) c.if-not-begin.ensures

pub returns : goal.returns
returns c =
    let r : Reply = reply_of (query_of c.args.query.now) [] in
    Replies-with_flags c.begin.new.reply c.nxdomain.new.self 34179 r c.if-not-begin.ensures (c.nxdomain.ensures.reply r (c.if-not-begin.ensures.draft refl))
