use Rattle.std.proofs.Common.{length}
use Rattle.dc_shard.proofs.tapes.+clear_each.Given as goal

abbrev pub decreases-clear_each : goal.decreases-clear_each
decreases-clear_each g l = length l.bays.now
