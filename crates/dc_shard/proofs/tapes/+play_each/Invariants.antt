use Rattle.std.proofs.Common.{length}
use Rattle.dc_shard.proofs.tapes.+play_each.Given as goal

abbrev pub decreases-play_each : goal.decreases-play_each
decreases-play_each g l = length l.order.now
