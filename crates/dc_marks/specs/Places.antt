-- The records of a message by their numbers.
use Rattle.std.specs.Prelude.{◌≡◌, ℕ, List, [], Option, Some, option_map, slice_index_or, slice_get}
use Rattle.dc_model.specs.Name.{root}
use Rattle.dc_model.specs.Message.{answer, bytes, Record, Message}

-- What stands behind the last record.
abbrev pub no_record : Record
no_record = record { section = answer; owner = root; kind = 0; class = 0; ttl = 0; body = bytes []; owner_at = 0; at = 0; len = 0 }

-- The record of this number, counted from 0.
abbrev pub record_in : Message → ℕ → Record
record_in m i = slice_index_or m.records i no_record

-- The number is that of the record; there is none exactly where there is no record.
abbrev pub IsNumberOf : List Record → Option ℕ → Option Record → Type 0
IsNumberOf rs i r = option_map (slice_get rs) i ≡ option_map (λ x. Some x) r
