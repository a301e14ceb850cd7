-- The head of a configuration and a seed, as it is written.
use Rattle.std.specs.Prelude.{◌≡◌, ◌≤◌, ◌<◌, ◌^◌, ℕ, Bool, true, not, ◌&&◌, if◌then◌else◌, ◌==◌, min, max, List, [], ◌∷◌, ◌++◌, length, map, drop, flat_map, Option, Some, None}
use Rattle.std.specs.List.{list_all, list_any, AllByRecursion}
use Rattle.dc_model.specs.Name.{Name, IsName, root, lower}
use Rattle.dc_model.specs.Address.{address_text}
use Rattle.dc_model.specs.Places.{no_address, is_empty_place, all_empty, addresses}
use Rattle.dc_model.specs.Rules.{Rule, one, two, Zone, is_named}
use Rattle.dc_rules.specs.declared.config.Config.{Config}
use Rattle.dc_script.specs.Text.{IsAddress}
use Rattle.dc_script.specs.Head.{Head}
use Rattle.dc_script.specs.HeadText.{ZoneTold, HeadTold}
use Rattle.dc_record.specs.declared.sayable.HeadError.{HeadError}
use Rattle.dc_record.specs.declared.sayable.HeadError.TheVariants.{Rootless, Unsaid}

-- Whether a configuration has a head

-- A byte that a label may have. Names in scripts have no escapes, so a dot parts labels, a space parts words and a line feed lines.
abbrev pub is_said_byte : ℕ → Bool
is_said_byte b = not (b == 46) && (not (b == 32) && not (b == 10))

abbrev pub is_said_name : Name → Bool
is_said_name n = list_all (list_all is_said_byte) n

-- Places that are filled from the first on.
abbrev pub is_packed : List (List ℕ) → Bool
is_packed [] = true
is_packed (p ∷ ps) = if is_empty_place p then all_empty ps else is_packed ps

-- The root's zone has a server.
abbrev pub is_said_root : Zone → Bool
is_said_root z = is_named root z && (not (all_empty z.places) && is_packed z.places)

-- Any other zone.
abbrev pub is_said_zone : Zone → Bool
is_said_zone z = not (is_named root z) && (is_said_name z.name && is_packed z.places)

-- Each of these zones can be said, and none has the name of one that stands before it.
abbrev pub are_said : (before : List Zone) → List Zone → Bool
are_said before [] = true
are_said before (z ∷ zs) = (is_said_zone z && not (list_any (is_named z.name) before)) && are_said (before ++ (z ∷ [])) zs

-- The zones behind the root's.
abbrev pub zones_refusal : Zone → List Zone → Option HeadError
zones_refusal z zs = if are_said (z ∷ []) zs then None else Some Unsaid

-- Why zones have no head: the first isn't the root's, with a server; or one of the others can't be said.
abbrev pub head_refusal : List Zone → Option HeadError
head_refusal [] = Some Rootless
head_refusal (z ∷ zs) = if is_said_root z then zones_refusal z zs else Some Rootless

-- The head

-- A name in dotted text, with a dot behind each label.
abbrev pub dotted_text : Name → List ℕ
dotted_text n = flat_map (λ l. l ++ (46 ∷ [])) n

abbrev pub zone_told : Zone → ZoneTold
zone_told z = record { text = dotted_text z.name; servers = addresses z.places }

-- The root's servers.
abbrev pub first_servers : List Zone → List (List ℕ)
first_servers [] = []
first_servers (z ∷ zs) = addresses z.places

-- The version under which a rule is said.
abbrev pub version_of : Rule → ℕ
version_of one = 1
version_of two = 2

-- What is written: the version, the cache's size, whether forwarding, the permissions and the zones in the order in which they were added,
-- and the seed.
abbrev pub told_of : Config → List ℕ → HeadTold
told_of c seed = record {
  version = version_of c.zones.rule;
  size = c.size;
  forward = c.forward;
  allows = map address_text c.permit;
  servers = first_servers c.zones.configured;
  zones = map zone_told (drop 1 c.zones.configured);
  seed = seed;
}

-- What a script says of a configuration: the cache's size is brought into its bounds, and no addresses are said.
abbrev pub scripted : Config → Config
scripted c = record c { size = min (max c.size 100) 1000000000; ip = no_address; ipsend = no_address }

-- The head that it is.
abbrev pub head_of : Config → List ℕ → Head
head_of c seed = record { version = version_of c.zones.rule; config = scripted c; seed = seed }

-- What holds of each configuration by its types

pub record IsZone (z : Zone) : Type 0 where
  pub name : IsName z.name
  pub lowered : lower z.name ≡ z.name
  pub sixteen : length z.places ≡ 16
  pub octets : AllByRecursion IsAddress z.places

pub record IsPermit (o : List ℕ) : Type 0 where
  pub least : 1 ≤ length o
  pub most : length o ≤ 4
  pub octets : AllByRecursion (λ b. b < 256) o

pub record AreParts (c : Config) : Type 0 where
  pub size : c.size < 2 ^ 32
  pub zones : AllByRecursion IsZone c.zones.configured
  pub few : length c.zones.configured ≤ 256
  pub permits : AllByRecursion IsPermit c.permit
  pub most : length c.permit ≤ 4096
