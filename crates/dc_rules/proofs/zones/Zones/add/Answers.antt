use Rattle.std.proofs.Common.{rules, ◌≡◌, ◌++◌, ℕ, length, List, [], ◌∷◌}
use Rattle.dc_rules.proofs.Placing.{one_more}
use Rattle.dc_rules.proofs.zones.Zones.add.Goals as goal

pub invariant_of-self : goal.invariant_of-self
invariant_of-self c = search (rules, one_more)
