-- What an event in an inbox stands for.
use Rattle.std.specs.Prelude.{ℕ, List}
use Rattle.dc_model.specs.Event.{Kind, tick, request, datagram, link_up, link_bytes, link_down, bind_refused, conn_up, conn_bytes, conn_down, Event}
use Rattle.dc_engine.specs.declared.events.Kind.{Kind as CodeKind}
use Rattle.dc_engine.specs.declared.events.Kind.TheVariants.{Tick, Request, Datagram, LinkUp, LinkBytes, LinkDown, BindRefused, ConnUp, ConnBytes, ConnDown}
use Rattle.dc_engine.specs.declared.events.Event.{Event as CodeEvent}

-- The kind that a `Kind` names.
abbrev pub kind_of : CodeKind → Kind
kind_of Tick = tick
kind_of Request = request
kind_of Datagram = datagram
kind_of LinkUp = link_up
kind_of LinkBytes = link_bytes
kind_of LinkDown = link_down
kind_of BindRefused = bind_refused
kind_of ConnUp = conn_up
kind_of ConnBytes = conn_bytes
kind_of ConnDown = conn_down

-- The event that an `Event` is with its bytes.
abbrev pub event_of : CodeEvent → List ℕ → Event
event_of e bytes = record { now = e.now; kind = kind_of e.kind; id = e.id; addr = e.addr; port = e.port; bytes = bytes }
