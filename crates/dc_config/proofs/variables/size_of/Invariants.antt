use Rattle.std.proofs.Common.{◌≡◌, true, min, take}
use Rattle.std.specs.List.{list_all}
use Rattle.dc_model.specs.Name.{is_digit, number_value}
use Rattle.dc_config.proofs.variables.size_of.Given as goal

abbrev pub invariant-loop-digit : goal.invariant-loop-digit
invariant-loop-digit l = record {
  digits : list_all is_digit (take l.digit-index l.text) ≡ true;
  size : l.size ≡ min (number_value (take l.digit-index l.text)) 1000000000;
}
