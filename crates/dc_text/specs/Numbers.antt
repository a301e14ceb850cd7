-- Numbers in text.
use Rattle.std.specs.Prelude.{ℕ, ◌&&◌, if◌then◌else◌, nat_lt, List, Option, Some, None}
use Rattle.std.specs.List.{list_all}
use Rattle.dc_model.specs.Name.{is_digit, is_number, number_value}

-- The number below a limit that decimal digits say, where each is one.
abbrev pub digits_below : ℕ → List ℕ → Option ℕ
digits_below limit text = if list_all is_digit text && nat_lt (number_value text) limit then Some (number_value text) else None

-- The number below a limit that a text is.
abbrev pub number_below : ℕ → List ℕ → Option ℕ
number_below limit text = if is_number text && nat_lt (number_value text) limit then Some (number_value text) else None
