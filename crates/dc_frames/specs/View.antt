-- Queries as the machine sees them.
use Rattle.std.specs.Prelude.{List, [], ◌∷◌, map, take}
use Rattle.dc_model.specs.Name.{root}
use Rattle.dc_model.specs.Message as model
use Rattle.dc_packet.specs.Question.{asked}
use Rattle.dc_machine.specs.Query as machine
use Rattle.dc_frames.specs.declared.frame.Frame.{Frame}
use Rattle.dc_frames.specs.declared.frames.Frames.{Frames}
use Rattle.dc_frames.specs.declared.frame.Renamed.{Renamed}
use Rattle.dc_frames.specs.declared.query.Query.{Query}

-- A request of nothing.
abbrev pub no_request : model.Request
no_request = record { id = 0; name = root; kind = 0; class = 0 }

-- A frame.
abbrev pub frame_of : Frame → machine.Frame
frame_of f = record { name = f.name; control = f.control; hosts = f.hosts.items; places = f.places }

-- An alias.
abbrev pub alias_of : Renamed → machine.Alias
alias_of a = record { name = a.name; ttl = a.ttl }

-- Frames from the lowest up, put onto others.
unfoldable pub onto : List Frame → List machine.Frame → List machine.Frame
onto [] below = below
onto (f ∷ fs) below = onto fs (frame_of f ∷ below)

-- The frames in the slots that are taken, the top one first.
unfoldable pub frames_of : Frames → List machine.Frame
frames_of fs = onto (take fs.len fs.slots) []

-- A query, its frames with the top one first.
unfoldable pub query_of : Query → machine.Query
query_of q = record { request = asked q.request; frames = frames_of q.frames.value; aliases = map alias_of q.aliases.value.items; turns = q.turns }
