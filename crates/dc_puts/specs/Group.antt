-- What the records of one pair have in common.
use Rattle.std.specs.Prelude.{ℕ, List, slice_index}
use Rattle.dc_model.specs.Message.{Message}
use Rattle.dc_model.specs.Puts.{Pair, pair_of, first_ttl}
use Rattle.dc_marks.specs.Places.{record_in}
use Rattle.dc_puts.specs.Order.{records_in}
use Rattle.dc_puts.specs.declared.told.Shared.{Shared}

-- The pair of the first of these records.
abbrev pub first_pair : Message → List ℕ → Pair
first_pair m run = pair_of (record_in m (slice_index run 0))

-- The server, the TTL of the first, and the pair.
abbrev pub shared_by : Message → List ℕ → List ℕ → Shared
shared_by m server run = record { server = server; ttl = first_ttl (records_in m run); kind = (first_pair m run).kind; owner = (first_pair m run).owner }
