use Rattle.std.proofs.Common.{◌≡◌, [], take, drop}
use Rattle.dc_rules.specs.Leading.{led}
use Rattle.dc_rules.specs.Table.{table_of}
use Rattle.dc_rules.proofs.zones.root_at.Given as goal

abbrev pub invariant-loop-at : goal.invariant-loop-at
invariant-loop-at l = led [] (table_of l.zones) ≡ led (table_of (take l.at l.zones)) (table_of (drop l.at l.zones))
