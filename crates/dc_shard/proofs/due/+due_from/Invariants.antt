use Rattle.std.proofs.Common.{length}
use Rattle.dc_shard.proofs.due.+due_from.Given as goal

abbrev pub decreases-due_from : goal.decreases-due_from
decreases-due_from g l = length l.bays.now
