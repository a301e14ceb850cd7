use Rattle.std.proofs.Common.{◌≡◌, ◌++◌, drop}
use Rattle.std.specs.List.{flat_map}
use Rattle.dc_model.specs.Address.{address_text}
use Rattle.dc_record.specs.HeadLines.{octet_text}
use Rattle.dc_record.proofs.head.push_octets.Given as goal

abbrev pub invariant-loop-octet : goal.invariant-loop-octet
invariant-loop-octet l = l.text.items ++ flat_map octet_text (drop l.octet-index l.octet-items) ≡ l.fn.text.items ++ address_text l.octets
