use Rattle.std.proofs.Common.{◌-◌, ◌≤◌, length, None}
use Rattle.dc_packet.proofs.WalkLemmas.{IsWalk}
use Rattle.dc_items.proofs.plain.plain_name.Given as goal

abbrev pub invariant-loop-label : goal.invariant-loop-label
invariant-loop-label l = record {
  walk : IsWalk l.body l.pos l.name None 0 l.at;
  from : l.pos ≤ l.at;
}

abbrev pub decreases-loop-label : goal.decreases-loop-label
decreases-loop-label l = length l.body - l.at
