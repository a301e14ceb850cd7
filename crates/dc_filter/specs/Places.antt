-- The place in a queue of the line that an event is for, counted from 0.
use Rattle.std.specs.Prelude.{ℕ, nat_le, if◌then◌else◌, List, map, Option, Some, None}
use Rattle.std.specs.List.{position}
use Rattle.dc_model.specs.Event.{Event, Kind, tick, request, datagram, link_up, link_bytes, link_down, bind_refused, conn_up, conn_bytes, conn_down}
use Rattle.dc_lookup.specs.Filter.{Slot, is_fresh_at, due_at, soonest, has_deadline, has_link}

-- The first line with this deadline, where that has come.
abbrev pub due_place : Option ℕ → ℕ → List Slot → Option ℕ
due_place None now queue = None
due_place (Some moment) now queue = if nat_le moment now then position (λ s. has_deadline moment s.at) queue else None

-- The first of two, where it is there.
abbrev pub or_else : Option ℕ → Option ℕ → Option ℕ
or_else (Some place) other = Some place
or_else None other = other

abbrev pub tick_place : ℕ → List Slot → Option ℕ
tick_place now queue = or_else (position (λ s. is_fresh_at s.at) queue) (due_place (soonest (map (λ s. due_at s.at) queue)) now queue)

abbrev pub link_place : ℕ → List Slot → Option ℕ
link_place link queue = position (λ s. has_link link s.at) queue

unfoldable pub event_place : Kind → Event → List Slot → Option ℕ
event_place tick e queue = tick_place e.now queue
event_place request e queue = None
event_place datagram e queue = link_place e.id queue
event_place link_up e queue = link_place e.id queue
event_place link_bytes e queue = link_place e.id queue
event_place link_down e queue = link_place e.id queue
event_place bind_refused e queue = link_place e.id queue
event_place conn_up e queue = None
event_place conn_bytes e queue = None
event_place conn_down e queue = None
