use Rattle.std.proofs.Common.{◌≡◌, ◌-◌, drop}
use Rattle.dc_model.specs.Draws.{shuffled_below}
use Rattle.dc_draws.proofs.shuffle.Given as goal

abbrev pub invariant-loop-i : goal.invariant-loop-i
invariant-loop-i l = shuffled_below (15 - l.i) (drop l.i l.draws) l.servers ≡ shuffled_below 15 l.draws l.initial.servers
