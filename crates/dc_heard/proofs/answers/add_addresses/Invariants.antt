use Rattle.std.proofs.Common.{◌≡◌, ◌<◌, length, take}
use Rattle.dc_machine.specs.Query.{name_of, with_addresses}
use Rattle.dc_frames.specs.View.{query_of}
use Rattle.dc_heard.specs.Taken.{addresses_in}
use Rattle.dc_heard.proofs.answers.add_addresses.Given as goal

abbrev pub invariant-loop-i : goal.invariant-loop-i
invariant-loop-i l = record {
  below : 1 < length (query_of l.query).frames;
  same : query_of l.query ≡ with_addresses (query_of l.fn.query) (addresses_in (name_of (query_of l.fn.query)) (take l.i l.message.records));
}
