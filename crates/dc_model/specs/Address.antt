-- Addresses in text.
use Rattle.std.specs.Prelude.{ℕ, List, map, decimal}
use Rattle.std.specs.List.{join_with_byte}

-- An address as four numbers joined by dots.
abbrev pub address_text : List ℕ → List ℕ
address_text addr = join_with_byte 46 (map decimal addr)
