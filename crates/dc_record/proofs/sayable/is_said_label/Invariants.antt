use Rattle.std.proofs.Common.{◌≡◌, drop}
use Rattle.std.specs.List.{list_all}
use Rattle.dc_record.specs.HeadOf.{is_said_byte}
use Rattle.dc_record.proofs.sayable.is_said_label.Given as goal

abbrev pub invariant-loop-byte : goal.invariant-loop-byte
invariant-loop-byte l = list_all is_said_byte l.label ≡ list_all is_said_byte (drop l.byte-index l.label)
