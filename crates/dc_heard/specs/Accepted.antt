-- A packet that was accepted, as the machine sees it.
use Rattle.dc_model.specs.Transmission.{Accepted}
use Rattle.dc_heard.specs.declared.heard.Answered.{Answered}

-- The packet, with the server and its place.
abbrev pub accepted_of : Answered → Accepted
accepted_of a = record { packet = a.packet.now; server = a.server; place = a.place }
