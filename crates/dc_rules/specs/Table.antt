-- A table of zones.
use Rattle.std.specs.Prelude.{◌≡◌, List, ◌++◌, map}
use Rattle.dc_model.specs.Name.{Name, lower}
use Rattle.dc_model.specs.Rules.{Zone}
use Rattle.dc_rules.specs.declared.zones.Zone.{Zone as Row}
use denote.Ref.{Bor}

-- A zone of the table: its name in lower case.
abbrev pub zone_of : Row → Zone
zone_of z = record { name = lower z.name; places = z.servers }

-- A zone that is lent.
abbrev pub zone_at : Bor Row → Zone
zone_at z = zone_of z.now

-- The zones of a table, in order.
abbrev pub table_of : List Row → List Zone
table_of zs = map zone_of zs

-- The second name is the first or lies above it: its labels are the last of the first's.
abbrev pub IsEnd : Name → Name → Type 0
IsEnd n end = (front : Name) × (n ≡ front ++ end)
