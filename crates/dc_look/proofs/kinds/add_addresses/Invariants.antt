use Rattle.std.proofs.Common.{◌≡◌, ◌<◌, length}
use Rattle.dc_frames.specs.View.{query_of}
use Rattle.dc_machine.specs.Query.{with_addresses}
use Rattle.dc_look.proofs.kinds.add_addresses.Given as goal

abbrev pub invariant-loop-address : goal.invariant-loop-address
invariant-loop-address l = record {
  some : 1 < length (query_of l.query).frames;
  left : with_addresses (query_of l.query) l.addresses ≡ with_addresses (query_of l.initial.query) l.initial.addresses;
}

abbrev pub decreases-loop-address : goal.decreases-loop-address
decreases-loop-address l = length l.addresses
