-- The calls that are made for a client's connection.
use Rattle.std.specs.Prelude.{◌≡◌, ℕ, ◌==◌, nat_le, Bool, true, false, if◌then◌else◌, List, [], ◌∷◌, ◌++◌, length, drop}
use Rattle.dc_sock.specs.Asked.{none_asked, asked_all, one_answered, is_settled}
use Rattle.dc_sock.specs.declared.asked.Asked.{Asked}
use Rattle.std.specs.declared.option.Option.{Option}
use Rattle.std.specs.declared.option.Option.TheVariants.{None, Some}
use Rattle.dc_system.specs.Call.{Call, read, write, part_bytes}
use Rattle.dc_system.specs.declared.answers.Part.{Part}
use Rattle.dc_system.specs.declared.answers.Part.TheVariants as part
use Rattle.dc_engine.specs.declared.events.Kind.TheVariants as kind
use Rattle.dc_sock.specs.Found.{plain_found}
use Rattle.dc_sock.specs.declared.seat.Conn.{Conn}
use Rattle.dc_sock.specs.declared.seat.Seat.{Seat}
use Rattle.dc_sock.specs.declared.found.Step.{Step}
use Rattle.dc_sock.specs.declared.found.Step.TheVariants as step

-- A place with no connection, and one with a connection that came.
abbrev pub free_seat : Seat
free_seat = record { conn = None; backlog = [] }

abbrev pub new_seat : ℕ → Seat
new_seat number = record { conn = Some (record { number = number; failed = false; ended = false; asked = none_asked }); backlog = [] }

-- Whether the number of its connection is this.
abbrev pub holds_conn : ℕ → Option Conn → Bool
holds_conn number None = false
holds_conn number (Some conn) = conn.number == number

-- A connection for which bytes were taken or wait, which answers one request; and one that neither took them nor let them wait.
abbrev pub replied_conn : Conn → Bool → Conn
replied_conn conn true = record conn { asked = one_answered conn.asked }
replied_conn conn false = record conn { failed = true }

-- At most so many bytes wait.
abbrev pub fitting : List ℕ → Option (List ℕ)
fitting bytes = if nat_le (length bytes) 65537 then Some bytes else None

-- What a stream that was given bytes hasn't taken.
abbrev pub left_by : (bytes : List ℕ) → Option ℕ → Option (List ℕ)
left_by bytes None = None
left_by bytes (Some taken) = Some (drop taken bytes)

-- What then waits behind the others.
abbrev pub behind : (waiting : List ℕ) → Option (List ℕ) → Option (List ℕ)
behind waiting None = None
behind waiting (Some rest) = fitting (waiting ++ rest)

-- Bytes for a connection are written at once where none wait, and what it doesn't take waits. Else they wait behind the others. None: the
-- connection has failed.
abbrev pub put_calls : (socket : ℕ) (waiting bytes : List ℕ) → Option ℕ → List Call
put_calls socket waiting bytes answer = if length waiting == 0 then write socket bytes answer ∷ [] else []

abbrev pub put_rest : (waiting bytes : List ℕ) → Option ℕ → Option (List ℕ)
put_rest waiting bytes answer = if length waiting == 0 then behind waiting (left_by bytes answer) else fitting (waiting ++ bytes)

-- The place behind that.
abbrev pub after_put : Seat → Conn → Option (List ℕ) → Seat
after_put seat conn None = record { conn = Some (replied_conn conn false); backlog = seat.backlog }
after_put seat conn (Some rest) = record { conn = Some (replied_conn conn true); backlog = rest }

-- Bytes are given to a connection. One that has failed is given none.
abbrev pub PutsConn : (failed : Bool) (socket : ℕ) → Seat → Conn → (bytes : List ℕ) → List Call → Seat → Type 0
PutsConn true socket seat conn bytes calls new = (calls ≡ []) × (new ≡ seat)
PutsConn false socket seat conn bytes calls new =
    (answer : Option ℕ) × ((calls ≡ put_calls socket seat.backlog bytes answer) × (new ≡ after_put seat conn (put_rest seat.backlog bytes answer)))

abbrev pub PutsSeat : Option Conn → (socket : ℕ) → Seat → (bytes : List ℕ) → List Call → Seat → Type 0
PutsSeat None socket seat bytes calls new = (calls ≡ []) × (new ≡ seat)
PutsSeat (Some conn) socket seat bytes calls new = PutsConn conn.failed socket seat conn bytes calls new

abbrev pub went_well : Option (List ℕ) → Bool
went_well None = false
went_well (Some rest) = true

abbrev pub or_as_before : List ℕ → Option (List ℕ) → List ℕ
or_as_before before None = before
or_as_before before (Some rest) = rest

-- What waits is written, if anything does.
abbrev pub flush_calls : (socket : ℕ) (waiting : List ℕ) → Option ℕ → List Call
flush_calls socket waiting answer = if length waiting == 0 then [] else write socket waiting answer ∷ []

abbrev pub flush_rest : (waiting : List ℕ) → Option ℕ → Option (List ℕ)
flush_rest waiting answer = if length waiting == 0 then Some waiting else left_by waiting answer

-- What a stream of a client gives. Its end is told where every whole request was answered and nothing waits; a failure is told at once.
abbrev pub conn_step : Asked → (waiting : List ℕ) → Part → Step
conn_step asked waiting part.Nothing = step.Nothing
conn_step asked waiting (part.Bytes len) = step.Event (record { kind = kind.ConnBytes; addr = 0 ∷ 0 ∷ 0 ∷ 0 ∷ []; port = 0; len = len })
conn_step asked waiting part.End = if is_settled asked waiting then step.Last (plain_found kind.ConnDown) else step.Nothing
conn_step asked waiting part.Failed = step.Last (plain_found kind.ConnDown)

-- The connection behind that.
abbrev pub conn_after : Conn → Part → (bytes : List ℕ) → Conn
conn_after conn part.Nothing bytes = conn
conn_after conn (part.Bytes len) bytes = record conn { asked = asked_all conn.asked bytes }
conn_after conn part.End bytes = record conn { ended = true }
conn_after conn part.Failed bytes = conn

-- Behind a flush the stream is read; where the flush failed the connection ends.
abbrev pub ReadsBehind : (socket : ℕ) → Conn → Option (List ℕ) → (flushed calls : List Call) → Step → (buffer : List ℕ) → Seat → Type 0
ReadsBehind socket conn None flushed calls gave buffer new = (calls ≡ flushed) × (gave ≡ step.Last (plain_found kind.ConnDown))
ReadsBehind socket conn (Some rest) flushed calls gave buffer new =
    (answer : Part) × ((calls ≡ flushed ++ read socket answer (part_bytes answer buffer) ∷ [])
    × ((gave ≡ conn_step conn.asked rest answer) × (new ≡ record { conn = Some (conn_after conn answer (part_bytes answer buffer)); backlog = rest })))

-- A connection is looked at: a failed one ends; else what waits is written, and the stream is read.
abbrev pub LooksAtConn : (socket : ℕ) → Conn → (waiting : List ℕ) → (failed : Bool) → List Call → Step → (buffer : List ℕ) → Seat → Type 0
LooksAtConn socket conn waiting true calls gave buffer new = (calls ≡ []) × (gave ≡ step.Last (plain_found kind.ConnDown))
LooksAtConn socket conn waiting false calls gave buffer new =
    (answer : Option ℕ) × ReadsBehind socket conn (flush_rest waiting answer) (flush_calls socket waiting answer) calls gave buffer new

abbrev pub LooksAtSeat : (socket : ℕ) → Seat → Option Conn → List Call → (id : ℕ) → Step → (buffer : List ℕ) → Seat → Type 0
LooksAtSeat socket seat None calls id gave buffer new = (calls ≡ []) × ((gave ≡ step.Nothing) × (new ≡ seat))
LooksAtSeat socket seat (Some conn) calls id gave buffer new = (id ≡ conn.number) × LooksAtConn socket conn seat.backlog conn.failed calls gave buffer new
