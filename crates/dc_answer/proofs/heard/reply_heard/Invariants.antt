use Rattle.std.proofs.Common.{true}
use Rattle.dc_machine.specs.Turn.{reply_of}
use Rattle.dc_frames.specs.View.{query_of}
use Rattle.dc_answer.specs.Replies.{Replies}
use Rattle.dc_answer.specs.Heard.{first_heard}
use Rattle.dc_answer.proofs.heard.reply_heard.Given as goal

abbrev pub invariant-loop-i : goal.invariant-loop-i
invariant-loop-i l = Replies true l.reply (reply_of (query_of l.query) (first_heard l.i (query_of l.query) l.message))
