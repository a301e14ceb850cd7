-- What the line of an event says of it.
use Rattle.std.specs.Prelude.{ℕ, Bool, true, false, List, []}
use Rattle.dc_model.specs.Event.{Event}
use Rattle.dc_model.specs.Places.{no_address}
use Rattle.dc_script.specs.Script.{has_number, has_sender, has_bytes_word}

-- What stands in a line, if it is wanted: else 0, 0.0.0.0 and no bytes.

abbrev pub number_if : Bool → ℕ → ℕ
number_if false n = 0
number_if true n = n

abbrev pub address_if : Bool → List ℕ → List ℕ
address_if false addr = no_address
address_if true addr = addr

abbrev pub bytes_if : Bool → List ℕ → List ℕ
bytes_if false bytes = []
bytes_if true bytes = bytes

-- The event without what its kind doesn't have.
abbrev pub plain : Event → Event
plain e = record {
  now = e.now;
  kind = e.kind;
  id = number_if (has_number e.kind) e.id;
  addr = address_if (has_sender e.kind) e.addr;
  port = number_if (has_sender e.kind) e.port;
  bytes = bytes_if (has_bytes_word e.kind) e.bytes;
}
