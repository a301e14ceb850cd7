-- Entries of the code as events that wait.
use Rattle.std.specs.Prelude.{ℕ, Bool, true, false, List, []}
use Rattle.dc_model.specs.Event.{Event, datagram, link_up, link_bytes}
use Rattle.dc_model.specs.Message.{framed}
use Rattle.dc_model.specs.Places.{no_address}
use Rattle.dc_simulation.specs.Tree.{answer_bytes, content_of}
use Rattle.dc_simulation.specs.World.{link_event}
use Rattle.dc_sim.specs.Asking.{question_by}
use Rattle.dc_sim.specs.Servers.{server_of, IsPlaced}
use Rattle.dc_sim.specs.declared.answer.Asked.{Asked}
use Rattle.dc_sim.specs.declared.entry.Coming.{Coming}
use Rattle.dc_sim.specs.declared.entry.Coming.TheVariants.{Up, Answer}
use Rattle.dc_sim.specs.declared.server.Server.{Server}

-- An answer comes as a datagram, or in a stream behind its length.
abbrev pub back_event : (over_tcp : Bool) → ℕ → List ℕ → List ℕ → Event
back_event true link addr bytes = link_event link_bytes link addr 53 (framed bytes)
back_event false link addr bytes = link_event datagram link addr 53 bytes

-- The bytes of an answer.
abbrev pub bytes_by : Server → (over_tcp : Bool) → Asked → List ℕ
bytes_by server over_tcp asked = answer_bytes asked.id (question_by asked) (content_of (server_of server) over_tcp asked.question.name)

-- The answer as an event at a moment.
abbrev pub answer_event : ℕ → ℕ → List ℕ → Server → (over_tcp : Bool) → Asked → Event
answer_event now link addr server over_tcp asked = record (back_event over_tcp link addr (bytes_by server over_tcp asked)) { now = now }

-- What comes on a link.
abbrev pub event_by : ℕ → Coming → Event
event_by link Up = link_event link_up link no_address 0 []
event_by link (Answer addr server over_tcp asked) = back_event over_tcp link addr (bytes_by server over_tcp asked)

-- Its server is one of the tree.
abbrev pub IsPlacedIn : Coming → Type 0
IsPlacedIn Up = Unit {0}
IsPlacedIn (Answer addr server over_tcp asked) = IsPlaced server
