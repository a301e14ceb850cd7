use Rattle.std.proofs.Common.{◌≡◌, take, true, ◌<◌, ◌^◌}
use Rattle.std.specs.List.{list_all}
use Rattle.dc_model.specs.Name.{is_digit, number_value}
use Rattle.dc_text.proofs.numbers.digits.Given as goal

abbrev pub invariant-loop-digit : goal.invariant-loop-digit
invariant-loop-digit l = record { value : l.value ≡ number_value (take l.digit-index l.text); digits : list_all is_digit (take l.digit-index l.text) ≡ true; fits : l.value < 2 ^ 64 }
