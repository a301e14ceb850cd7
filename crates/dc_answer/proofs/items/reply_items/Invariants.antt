use Rattle.std.proofs.Common.{length}
use Rattle.dc_frames.specs.View.{query_of}
use Rattle.dc_answer.proofs.ItemsLemmas.{Taken}
use Rattle.dc_answer.proofs.items.reply_items.Given as goal

abbrev pub invariant-loop-data : goal.invariant-loop-data
invariant-loop-data l = Taken (query_of l.query) l.kind l.ttl l.initial.items l.items l.reply

abbrev pub decreases-loop-data : goal.decreases-loop-data
decreases-loop-data l = length l.items
