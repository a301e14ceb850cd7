use Rattle.std.proofs.Common.{map, take}
use Rattle.dc_event.specs.Kept.{action_of}
use Rattle.dc_shard.proofs.tape.play_all.Given as goal

abbrev pub invariant-loop-action : goal.invariant-loop-action
invariant-loop-action g l = g.E.Effects.acted l.fn.out (map action_of (take l.action-index l.kept)) l.out
