-- What the filter's words come to.
use Rattle.std.specs.Prelude.{ℕ, ◌&&◌, if◌then◌else◌, nat_le, bytes_eq, codes, List, [], ◌∷◌, Option, Some, None}
use Rattle.dc_model.specs.Name.{is_number, number_value}

-- A number from 1 to 16.
abbrev pub slots_in : List ℕ → Option ℕ
slots_in word = if is_number word && (nat_le 1 (number_value word) && nat_le (number_value word) 16) then Some (number_value word) else None

-- How many hosts are asked for at once: 10 where there is no word, or the number behind `-c`; nothing where the words aren't usable.
abbrev pub slots_of : List (List ℕ) → Option ℕ
slots_of [] = Some 10
slots_of (w ∷ []) = None
slots_of (w ∷ n ∷ []) = if bytes_eq w (codes "-c") then slots_in n else None
slots_of (w ∷ n ∷ v ∷ vs) = None
