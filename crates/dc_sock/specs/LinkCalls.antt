-- The calls that are made for a link, and what the link makes of their answers.
use Rattle.std.specs.Prelude.{◌≡◌, ℕ, Bool, true, false, List, [], ◌∷◌, length, ◌==◌, if◌then◌else◌}
use Rattle.std.specs.declared.option.Option.{Option}
use Rattle.std.specs.declared.option.Option.TheVariants.{None, Some}
use Rattle.dc_system.specs.Call.{Call, bind, connect, send, receive, begin, stands, read, write, close, letter_bytes, part_bytes}
use Rattle.dc_system.specs.declared.answers.NoSocket.{NoSocket}
use Rattle.dc_system.specs.declared.answers.NoSocket.TheVariants.{PortTaken, Full, Failed}
use Rattle.dc_system.specs.declared.answers.Bound.{Bound}
use Rattle.dc_system.specs.declared.answers.Bound.TheVariants as bound
use Rattle.dc_system.specs.declared.answers.Received.{Received}
use Rattle.dc_system.specs.declared.answers.Received.TheVariants as received
use Rattle.dc_system.specs.declared.answers.Standing.{Standing}
use Rattle.dc_system.specs.declared.answers.Standing.TheVariants as standing
use Rattle.dc_system.specs.declared.answers.Part.{Part}
use Rattle.dc_system.specs.declared.answers.Part.TheVariants as part
use Rattle.dc_engine.specs.declared.events.Kind.TheVariants as kind
use Rattle.dc_sock.specs.declared.found.Step.{Step}
use Rattle.dc_sock.specs.declared.found.Step.TheVariants as step
use Rattle.dc_sock.specs.declared.link.Link.{Link}
use Rattle.dc_sock.specs.declared.link.Way.{Way}
use Rattle.dc_sock.specs.declared.link.Way.TheVariants.{Udp, Connecting, Connected, Missing}
use Rattle.dc_sock.specs.declared.link.Opening.{Opening}
use Rattle.dc_sock.specs.declared.link.Opening.TheVariants.{Refused, Unconnected, Unsent, Sent}
use Rattle.dc_sock.specs.Found.{plain_found}

-- A link for datagrams is opened: a socket at that address and local port, with port 53 of the server alone, and on it the query. A socket
-- that doesn't serve is closed.
abbrev pub udp_calls : (socket : ℕ) (from : List ℕ) (port : ℕ) (server query : List ℕ) → Opening → List Call
udp_calls socket from port server query (Refused cause) = bind socket from port (bound.Refused cause) ∷ []
udp_calls socket from port server query Unconnected = bind socket from port bound.Made ∷ connect socket server 53 false ∷ close socket ∷ []
udp_calls socket from port server query Unsent =
    bind socket from port bound.Made ∷ connect socket server 53 true ∷ send socket query false ∷ close socket ∷ []
udp_calls socket from port server query Sent =
    bind socket from port bound.Made ∷ connect socket server 53 true ∷ send socket query true ∷ []

-- What the link goes over then.
abbrev pub udp_way : Opening → Way
udp_way (Refused cause) = Missing cause
udp_way Unconnected = Missing Failed
udp_way Unsent = Missing Failed
udp_way Sent = Udp

-- A connection is begun, to port 53 of the server from that address and local port.
abbrev pub tcp_calls : (socket : ℕ) (from : List ℕ) (port : ℕ) (server : List ℕ) → Bound → List Call
tcp_calls socket from port server answer = begin socket from port server 53 answer ∷ []

abbrev pub tcp_way : Bound → Way
tcp_way bound.Made = Connecting
tcp_way (bound.Refused cause) = Missing cause

-- A link is closed, if it has a socket.
abbrev pub close_calls : (socket : ℕ) → Way → List Call
close_calls socket Udp = close socket ∷ []
close_calls socket Connecting = close socket ∷ []
close_calls socket Connected = close socket ∷ []
close_calls socket (Missing cause) = []

-- What a link for datagrams gives: a datagram with its sender, or an error.
abbrev pub datagram_step : Received → Step
datagram_step received.Nothing = step.Nothing
datagram_step (received.Datagram letter) = step.Event (record { kind = kind.Datagram; addr = letter.addr; port = letter.port; len = letter.len })
datagram_step received.Failed = step.Event (plain_found kind.LinkDown)

abbrev pub HearsDatagrams : (socket : ℕ) → List Call → Step → (buffer : List ℕ) → Type 0
HearsDatagrams socket calls gave buffer =
    (answer : Received) × ((calls ≡ receive socket answer (letter_bytes answer buffer) ∷ []) × (gave ≡ datagram_step answer))

-- What a connection gives that doesn't stand yet.
abbrev pub standing_step : Standing → Step
standing_step standing.NotYet = step.Nothing
standing_step standing.Stands = step.Event (plain_found kind.LinkUp)
standing_step standing.Failed = step.Last (plain_found kind.LinkDown)

abbrev pub HearsConnecting : (socket : ℕ) → List Call → Step → Type 0
HearsConnecting socket calls gave = (answer : Standing) × ((calls ≡ stands socket answer ∷ []) × (gave ≡ standing_step answer))

-- What a connection gives that stands: bytes of its server, from port 53.
abbrev pub part_step : (server : List ℕ) → Part → Step
part_step server part.Nothing = step.Nothing
part_step server (part.Bytes len) = step.Event (record { kind = kind.LinkBytes; addr = server; port = 53; len = len })
part_step server part.End = step.Last (plain_found kind.LinkDown)
part_step server part.Failed = step.Last (plain_found kind.LinkDown)

abbrev pub HearsConnected : (socket : ℕ) (server : List ℕ) → List Call → Step → (buffer : List ℕ) → Type 0
HearsConnected socket server calls gave buffer =
    (answer : Part) × ((calls ≡ read socket answer (part_bytes answer buffer) ∷ []) × (gave ≡ part_step server answer))

-- What a link gives that has no socket.
abbrev pub missing_step : NoSocket → Step
missing_step PortTaken = step.Last (plain_found kind.BindRefused)
missing_step Full = step.Last (plain_found kind.LinkDown)
missing_step Failed = step.Last (plain_found kind.LinkDown)

abbrev pub HearsWay : (socket : ℕ) (server : List ℕ) → Way → List Call → Step → (buffer : List ℕ) → Type 0
HearsWay socket server Udp calls gave buffer = HearsDatagrams socket calls gave buffer
HearsWay socket server Connecting calls gave buffer = HearsConnecting socket calls gave
HearsWay socket server Connected calls gave buffer = HearsConnected socket server calls gave buffer
HearsWay socket server (Missing cause) calls gave buffer = (calls ≡ []) × (gave ≡ missing_step cause)

abbrev pub HearsLink : (socket : ℕ) → Link → List Call → Step → (buffer : List ℕ) → Type 0
HearsLink socket link calls gave buffer = HearsWay socket link.server link.way calls gave buffer

-- Whether all of so many bytes were taken.
abbrev pub took_all : (count : ℕ) → Option ℕ → Bool
took_all count (Some taken) = taken == count
took_all count None = false

-- Bytes are written to a link, at once and whole, or it is given up.
abbrev pub write_calls : (socket : ℕ) (bytes : List ℕ) → Way → Option ℕ → List Call
write_calls socket bytes Udp answer = close socket ∷ []
write_calls socket bytes Connecting answer = write socket bytes answer ∷ (if took_all (length bytes) answer then [] else close socket ∷ [])
write_calls socket bytes Connected answer = write socket bytes answer ∷ (if took_all (length bytes) answer then [] else close socket ∷ [])
write_calls socket bytes (Missing cause) answer = []

-- What the link goes over then.
abbrev pub written_way : (bytes : List ℕ) → Way → Option ℕ → Way
written_way bytes Udp answer = Missing Failed
written_way bytes Connecting answer = if took_all (length bytes) answer then Connecting else Missing Failed
written_way bytes Connected answer = if took_all (length bytes) answer then Connected else Missing Failed
written_way bytes (Missing cause) answer = Missing Failed
