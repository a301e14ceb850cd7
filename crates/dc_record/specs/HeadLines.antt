-- The lines of a head, part by part.
use Rattle.std.specs.Prelude.{ℕ, if◌then◌else◌, List, [], ◌∷◌, ◌++◌, map, flat_map, codes, decimal}
use Rattle.dc_model.specs.Address.{address_text}
use Rattle.dc_model.specs.Line.{words}
use Rattle.dc_model.specs.Places.{is_empty_place, addresses}
use Rattle.dc_model.specs.Rules.{Zone}
use Rattle.dc_rules.specs.declared.config.Config.{Config}
use Rattle.dc_script.specs.Script.{Words}
use Rattle.dc_script.specs.Text.{bytes_text}
use Rattle.dc_script.specs.HeadText.{yes_text, allow_words, zone_words}
use Rattle.dc_record.specs.HeadOf.{version_of, zone_told}

-- A line of words, with its line feed.
abbrev pub line_text : Words → List ℕ
line_text ws = words ws ++ (10 ∷ [])

-- The first three lines.
abbrev pub front_text : Config → List ℕ
front_text c =
    line_text (codes "dnscache-script" ∷ decimal (version_of c.zones.rule) ∷ []) ++ (line_text (codes "cachesize" ∷ decimal c.size ∷ []) ++ line_text (codes "forwardonly" ∷ yes_text c.forward ∷ []))

-- A permission's line.
abbrev pub allow_line : List ℕ → List ℕ
allow_line octets = line_text (allow_words (address_text octets))

-- The root's line.
abbrev pub root_line : Zone → List ℕ
root_line z = line_text (codes "zone" ∷ codes "@" ∷ map address_text (addresses z.places))

-- Another zone's line.
abbrev pub zone_line : Zone → List ℕ
zone_line z = line_text (zone_words (zone_told z))

-- The lines of zones, of which the first is the root's.
abbrev pub zones_text : List Zone → List ℕ
zones_text [] = []
zones_text (z ∷ zs) = root_line z ++ flat_map zone_line zs

-- The last two lines.
abbrev pub last_text : List ℕ → List ℕ
last_text seed = line_text (codes "seed" ∷ bytes_text seed ∷ []) ++ line_text (codes "begin" ∷ [])

-- A server with a space before it, where the place isn't empty.
abbrev pub server_text : List ℕ → List ℕ
server_text addr = if is_empty_place addr then [] else 32 ∷ address_text addr

-- An octet behind others.
abbrev pub octet_text : ℕ → List ℕ
octet_text octet = 46 ∷ decimal octet

-- A label with a dot.
abbrev pub label_text : List ℕ → List ℕ
label_text label = label ++ (46 ∷ [])
