use Rattle.std.proofs.Common.{◌≡◌, length, take}
use Rattle.dc_model.specs.Places.{empty_places}
use Rattle.dc_machine.specs.Query.{with_zone}
use Rattle.dc_frames.specs.View.{query_of}
use Rattle.dc_heard.specs.Taken.{hosts_in}
use Rattle.dc_heard.proofs.refers.look_for.Given as goal

abbrev pub invariant-loop-i : goal.invariant-loop-i
invariant-loop-i l = record {
  same : query_of l.query ≡ with_zone (query_of l.fn.query) l.zone (take 16 (hosts_in l.zone (take l.i l.message.records))) empty_places;
  count : l.count ≡ length (take 16 (hosts_in l.zone (take l.i l.message.records)));
}
