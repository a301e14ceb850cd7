use Rattle.std.proofs.Common.{rules, []}
use Rattle.dc_name.proofs.WireLemmas.{IsWire-of, name_of-is, root-IsName}
use Rattle.dc_name.proofs.name.Name.root.Goals as goal

pub invariant_of-result : goal.invariant_of-result
invariant_of-result c = IsWire-of c.push.new.self.items [] root-IsName (search rules)

pub returns : goal.returns
returns c = name_of-is c.push.new.self.items [] root-IsName (search rules)
