use Rattle.std.proofs.Common.{◌≡◌, take, drop}
use Rattle.dc_rules.specs.Table.{table_of}
use Rattle.dc_record.specs.HeadOf.{are_said}
use Rattle.dc_record.proofs.sayable.are_said.Given as goal

abbrev pub invariant-loop-at : goal.invariant-loop-at
invariant-loop-at l = are_said (table_of (take l.from l.zones)) (table_of (drop l.from l.zones)) ≡ are_said (table_of (take l.at l.zones)) (table_of (drop l.at l.zones))
