-- The client's request.
use Rattle.std.specs.Prelude.{ℕ, ◌%◌, true}
use Rattle.dc_model.specs.Event.{Event, request}
use Rattle.dc_model.specs.Message.{kind_a, query}
use Rattle.dc_simulation.specs.World.{wanted, client}

-- At this moment, for the name of this number, and with the number of its event.
abbrev pub request_at : (now x number : ℕ) → Event
request_at now x number = record { now = now; kind = request; id = 0; addr = client; port = 4096; bytes = query (wanted x) kind_a (number % 65536) true }
