-- What is due first.
use Rattle.std.specs.Prelude.{ℕ, ◌≡◌, ◌<◌, ◌==◌, ◌&&◌, ◌||◌, Bool, nat_lt, List, length, map, filter, slice_get}
use Rattle.std.specs.declared.option.Option.{Option}
use Rattle.std.specs.declared.option.Option.TheVariants.{Some, None}
use Rattle.dc_machine.specs.Machine.{Machine, Active, Connection as Open, Holder, of_query, of_connection, earliest, holders, is_idle}
use Rattle.dc_connections.specs.Places.{connection_at}
use Rattle.dc_clients.specs.declared.clock.Due.{Due}
use Rattle.dc_clients.specs.declared.clock.Due.TheVariants.{Query, Connection}

-- Whether a connection is due before another: its deadline is less, or the same and its number less.
abbrev pub is_sooner : Open → Open → Bool
is_sooner c d = nat_lt c.deadline d.deadline || (c.deadline == d.deadline && nat_lt c.number d.number)

-- What is due stands at this place of its list.
abbrev pub Stands : Machine → Due → Holder → Type 0
Stands m (Query i) h = (a : Active) × (slice_get m.queries i ≡ Some a) × (h ≡ of_query a)
Stands m (Connection i) h = (i < length m.connections) × (h ≡ of_connection (connection_at m.connections i))

-- The first that is due of all holders stands there, or there is none.
abbrev pub IsFirstDue : Machine → Option Due → Type 0
IsFirstDue m None = earliest (holders m) ≡ None
IsFirstDue m (Some d) = (h : Holder) × (earliest (holders m) ≡ Some h) × Stands m d h

-- The connections that have a deadline.
abbrev pub idle_ones : Machine → List Holder
idle_ones m = map of_connection (filter (is_idle m) m.connections)

-- The first of them that is due stands at this place, or there is none.
abbrev pub IsFirstIdle : Machine → Option ℕ → Type 0
IsFirstIdle m None = earliest (idle_ones m) ≡ None
IsFirstIdle m (Some i) = earliest (idle_ones m) ≡ Some (of_connection (connection_at m.connections i))
