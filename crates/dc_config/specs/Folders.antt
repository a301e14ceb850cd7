-- The folders that are read.
use Rattle.std.specs.Prelude.{ℕ, Bool, true, false, not, if◌then◌else◌, ◌==◌, List, [], ◌∷◌, ◌++◌, codes, bytes_eq, unwrap_or, Option, Some, None, Result, Ok, Err}
use Rattle.std.specs.Result.{result_ok}
use Rattle.std.specs.Ordering.{is_lt, nat_cmp}
use Rattle.std.specs.Cmp.Lexicographic.{slice_cmp}
use Rattle.dc_model.specs.Name.{Name, root, from_dotted}
use Rattle.dc_model.specs.Places.{all_empty}
use Rattle.dc_model.specs.Rules.{Zones, ZoneRefusal, no_zones, add_zone, servers, read_servers, Permits, PermitRefusal, add_permit}
use Rattle.dc_config.specs.Tree.{Tree}
use Rattle.dc_config.specs.Answered.{and_then}
use Rattle.dc_config.specs.declared.error.ConfigError.{ConfigError}
use Rattle.dc_config.specs.declared.error.ConfigError.TheVariants.{BadZone, NoRoot, BadPermit}

-- Names in the order of their bytes

-- Whether a name comes before another.
abbrev pub before : List ℕ → List ℕ → Bool
before a b = is_lt (slice_cmp nat_cmp a b)

-- A name among others that are in order.
abbrev pub put_in : List ℕ → List (List ℕ) → List (List ℕ)
put_in n [] = n ∷ []
put_in n (m ∷ ms) = if before m n then m ∷ put_in n ms else n ∷ m ∷ ms

abbrev pub in_order : List (List ℕ) → List (List ℕ)
in_order [] = []
in_order (n ∷ ns) = put_in n (in_order ns)

-- Whether a name doesn't begin with a dot.
abbrev pub is_shown : List ℕ → Bool
is_shown [] = true
is_shown (c ∷ cs) = not (c == 46)

-- The files of a folder in order. An absent folder has none.
unfoldable pub listing : Option (List (List ℕ)) → List (List ℕ)
listing names = in_order (unwrap_or names [])

-- Zones

-- The zone that a file's name is: `@` is the root.
abbrev pub zone_named : List ℕ → Option Name
zone_named file = if bytes_eq file (codes "@") then Some root else result_ok (from_dotted file)

-- The zones with another, or the file whose zone can't be added.
abbrev pub zone_added : List ℕ → Result Zones ZoneRefusal → Result Zones ConfigError
zone_added file (Ok zs) = Ok zs
zone_added file (Err why) = Err (BadZone file)

-- The zones with that of a file, whose text is given where it is there: a file that is absent is skipped.
abbrev pub zone_by : List ℕ → Option Name → Option (List ℕ) → Zones → Result Zones ConfigError
zone_by file None text zs = Err (BadZone file)
zone_by file (Some name) None zs = Ok zs
zone_by file (Some name) (Some text) zs = zone_added file (add_zone name (read_servers text) zs)

-- The zones with that of a file. A name with a first dot is skipped.
unfoldable pub with_zone_file : Tree → List ℕ → Zones → Result Zones ConfigError
with_zone_file t file zs = if is_shown file then zone_by file (zone_named file) (t.bytes (codes "servers/" ++ file)) zs else Ok zs

-- The zones with those of these files, one after another.
abbrev pub with_zone_files : Tree → List (List ℕ) → Zones → Result Zones ConfigError
with_zone_files t [] zs = Ok zs
with_zone_files t (file ∷ files) zs = and_then (with_zone_files t files) (with_zone_file t file zs)

-- Whether there is a server.
abbrev pub has_server : Option (List (List ℕ)) → Bool
has_server None = false
has_server (Some places) = not (all_empty places)

-- The root has to have one.
abbrev pub rooted : Zones → Result Zones ConfigError
rooted zs = if has_server (servers zs root) then Ok zs else Err NoRoot

-- The zones that the folder `servers` gives.
unfoldable pub zones_of : Tree → Result Zones ConfigError
zones_of t = and_then rooted (with_zone_files t (listing (t.names (codes "servers"))) no_zones)

-- Permissions

-- The permissions with another, or the file that is none.
abbrev pub permit_added : List ℕ → Result Permits PermitRefusal → Result Permits ConfigError
permit_added file (Ok ps) = Ok ps
permit_added file (Err why) = Err (BadPermit file)

-- The permissions with that of a file. A name with a first dot is skipped.
unfoldable pub with_permit_file : List ℕ → Permits → Result Permits ConfigError
with_permit_file file ps = if is_shown file then permit_added file (add_permit file ps) else Ok ps

-- The permissions with those of these files, one after another.
abbrev pub with_permit_files : List (List ℕ) → Permits → Result Permits ConfigError
with_permit_files [] ps = Ok ps
with_permit_files (file ∷ files) ps = and_then (with_permit_files files) (with_permit_file file ps)

-- The permissions that the folder `ip` gives.
unfoldable pub permits_of : Tree → Result Permits ConfigError
permits_of t = with_permit_files (listing (t.names (codes "ip"))) []
