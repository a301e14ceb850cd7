use Rattle.std.proofs.Common.{arith, []}
use Rattle.dc_name.proofs.WireLemmas.{IsWire-wire, root-IsName}
use Rattle.dc_reply.proofs.suffixes.Entry.root.Goals as goal

pub invariant_of-result : goal.invariant_of-result
invariant_of-result c = (IsWire-wire [] root-IsName, omega arith, omega arith)
