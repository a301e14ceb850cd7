use Rattle.std.proofs.Common.{◌≡◌, take, true}
use Rattle.std.specs.List.{list_all}
use Rattle.dc_script.specs.Script.{is_lower_digit}
use Rattle.dc_script.proofs.digits.all_digits.Given as goal

abbrev pub invariant-loop-byte : goal.invariant-loop-byte
invariant-loop-byte l = list_all is_lower_digit (take l.byte-index l.text) ≡ true
