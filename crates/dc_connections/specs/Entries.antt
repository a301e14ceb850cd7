-- Connections as they are kept.
use Rattle.std.specs.Prelude.{List, map}
use Rattle.dc_machine.specs.Machine.{Connection}
use Rattle.dc_connections.specs.declared.entry.Entry.{Entry}

-- The connection that is kept so.
abbrev pub connection_of : Entry → Connection
connection_of e = record { number = e.number; addr = e.addr; port = e.port; gathered = e.stream; deadline = e.deadline }

-- All of them, in order.
abbrev pub connections_of : List Entry → List Connection
connections_of es = map connection_of es
