-- The connections that the fields of `Connections` hold.
use Rattle.std.specs.Prelude.{◌≡◌, ◌≤◌, ◌+◌, List, length, vec_capacity}
use Rattle.dc_model.specs.Limits.{most_connections}
use Rattle.dc_machine.specs.Machine.{Connection}
use Rattle.dc_connections.specs.Places.{AreApart}
use Rattle.dc_connections.specs.Entries.{connections_of}
use Rattle.dc_connections.specs.declared.connections.Connections.TheInside.{Inside}

-- The open connections, in the order of opening.
abbrev pub open_of : Inside → List Connection
open_of a = connections_of a.entries.items

-- No two have the same number; they and the spare streams are 20 together, with memory for 20 of each.
pub record IsKept (a : Inside) : Type 0 where
  pub apart : AreApart (connections_of a.entries.items)
  pub all : length a.entries.items + length a.spare.items ≡ most_connections
  pub room : 20 ≤ vec_capacity a.entries
  pub spare_room : 20 ≤ vec_capacity a.spare
