use Rattle.std.proofs.Common.{length}
use Rattle.dc_shard.proofs.step.+step_in_turn.Given as goal

abbrev pub decreases-step_in_turn : goal.decreases-step_in_turn
decreases-step_in_turn g l = length l.bays.now
