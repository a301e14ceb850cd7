use Rattle.std.proofs.Common.{true}
use Rattle.dc_frames.specs.View.{query_of}
use Rattle.dc_answer.specs.Replies.{Replies, first_aliases}
use Rattle.dc_answer.proofs.begin.begin.Given as goal

abbrev pub invariant-loop-i : goal.invariant-loop-i
invariant-loop-i l = Replies true l.reply (first_aliases l.i (query_of l.query))
