use Rattle.std.proofs.Common.{◌+◌, ◌-◌, ◌≤◌, ◌<◌, length, unwrap_or}
use Rattle.dc_model.specs.Name as model
use Rattle.dc_packet.proofs.WalkLemmas.{IsWalk}
use Rattle.dc_packet.proofs.name.read_name.Given as goal

abbrev pub invariant-loop-name : goal.invariant-loop-name
invariant-loop-name l = record {
  walk : IsWalk l.packet l.pos l.name l.after l.pointers l.at;
  after : l.pos < unwrap_or l.after (l.at + 1);
  within : unwrap_or l.after 0 ≤ length l.packet;
}

abbrev pub decreases-loop-name : goal.decreases-loop-name
decreases-loop-name l = 999 - (model.wire_length l.name + l.pointers)
