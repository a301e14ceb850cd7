use Rattle.std.proofs.Common.{drop}
use Rattle.std.specs.List.{AllByRecursion}
use Rattle.dc_script.specs.Text.{IsAddress}
use Rattle.dc_record.proofs.typed.are_addresses.Given as goal

abbrev pub invariant-loop-addr : goal.invariant-loop-addr
invariant-loop-addr l = AllByRecursion IsAddress (drop l.addr-index l.addrs) → AllByRecursion IsAddress l.addrs
