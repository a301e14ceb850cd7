-- The text of a head: the lines that are read as it.
use Rattle.std.specs.Prelude.{◌≡◌, ℕ, ◌+◌, ◌^◌, ◌<◌, ◌≤◌, Bool, true, false, not, ◌==◌, bytes_eq, min, max, List, [], ◌∷◌, ◌++◌, ◌⊎◌, length, map, replicate, codes, decimal, Some, Ok}
use Rattle.std.specs.List.{list_all, join_with_byte, AllByRecursion}
use Rattle.dc_model.specs.Event.{Event}
use Rattle.dc_model.specs.Line.{words}
use Rattle.dc_model.specs.Name.{Name, root}
use Rattle.dc_model.specs.Places.{no_address, is_empty_place, empty_places, places_of}
use Rattle.dc_model.specs.Rules.{Zones, one, add_zone, Permits, add_permit}
use Rattle.dc_script.specs.Script.{Words, most_line}
use Rattle.dc_model.specs.Address.{address_text}
use Rattle.dc_script.specs.Text.{bytes_text, IsAddress}
use Rattle.dc_script.specs.EventText.{events_text, IsWritten}
use Rattle.dc_script.specs.Heading.{zone_word}
use Rattle.dc_script.specs.Head.{Head, rule_under}

-- A zone other than the root: its name in text, and the addresses of its servers.
pub record ZoneTold : Type 0 where
  pub text : List ℕ
  pub servers : List (List ℕ)

-- What is written in a head: the version, the cache's size, whether forwarding, the texts of permissions, the root's servers, other
-- zones, and the seed.
pub record HeadTold : Type 0 where
  pub version : ℕ
  pub size : ℕ
  pub forward : Bool
  pub allows : List (List ℕ)
  pub servers : List (List ℕ)
  pub zones : List ZoneTold
  pub seed : List ℕ

abbrev pub yes_text : Bool → List ℕ
yes_text true = codes "yes"
yes_text false = codes "no"

abbrev pub allow_words : List ℕ → Words
allow_words text = codes "allow" ∷ text ∷ []

abbrev pub zone_words : ZoneTold → Words
zone_words z = codes "zone" ∷ z.text ∷ map address_text z.servers

-- The words of each line.
abbrev pub head_words : HeadTold → List Words
head_words h =
    (codes "dnscache-script" ∷ decimal h.version ∷ []) ∷ (codes "cachesize" ∷ decimal h.size ∷ []) ∷ (codes "forwardonly" ∷ yes_text h.forward ∷ [])
    ∷ (map allow_words h.allows
    ++ ((codes "zone" ∷ codes "@" ∷ map address_text h.servers) ∷ (map zone_words h.zones ++ ((codes "seed" ∷ bytes_text h.seed ∷ []) ∷ (codes "begin" ∷ []) ∷ []))))

-- Lines, with a text behind them.
abbrev pub lines_onto : List Words → List ℕ → List ℕ
lines_onto [] tail = tail
lines_onto (ws ∷ wss) tail = words ws ++ (10 ∷ lines_onto wss tail)

-- The lines of a head, with a text behind them.
unfoldable pub head_text : HeadTold → List ℕ → List ℕ
head_text h tail = lines_onto (head_words h) tail

-- How many lines there are.
abbrev pub lines_of_head : HeadTold → ℕ
lines_of_head h = 6 + length h.allows + length h.zones

-- A word: no space and no line feed.
abbrev pub IsWord : List ℕ → Type 0
IsWord w = (list_all (λ c. not (c == 32)) w ≡ true) × (list_all (λ c. not (c == 10)) w ≡ true)

-- Words of a line that isn't too long.
abbrev pub IsLine : Words → Type 0
IsLine ws = length (words ws) ≤ most_line

-- A server's address.
abbrev pub IsServer : List ℕ → Type 0
IsServer addr = IsAddress addr × (is_empty_place addr ≡ false)

-- At most sixteen servers.
abbrev pub AreServers : List (List ℕ) → Type 0
AreServers addrs = AllByRecursion IsServer addrs × (length addrs ≤ 16)

-- These texts are permissions, of which each was added.
abbrev pub Allowed : List (List ℕ) → Permits → Permits → Type 0
Allowed [] old new = old ≡ new
Allowed (t ∷ ts) old new = IsWord t × IsLine (allow_words t) × ((permit : Permits) × (add_permit t old ≡ Ok permit) × Allowed ts permit new)

-- These are zones other than the root, of which each was added.
abbrev pub Added : List ZoneTold → Zones → Zones → Type 0
Added [] old new = old ≡ new
Added (z ∷ zs) old new =
    IsWord z.text × IsLine (zone_words z) × (bytes_eq z.text (codes "@") ≡ false) × AreServers z.servers
    × ((name : Name) × (zone_word z.text ≡ Some name) × ((zones : Zones) × (add_zone name (places_of z.servers) old ≡ Ok zones) × Added zs zones new))

-- The root's zone, under the version's rule.
abbrev pub root_zones : HeadTold → Zones
root_zones h = record { configured = record { name = root; places = places_of h.servers } ∷ []; rule = rule_under h.version }

-- What is written can stand in a head, and its permissions and zones are these.
pub record IsTold (h : HeadTold) (permits : Permits) (zones : Zones) : Type 0 where
  pub version : (h.version ≡ 1) ⊎ (h.version ≡ 2)
  pub size : h.size < 2 ^ 64
  pub allowed : Allowed h.allows [] permits
  pub some : 1 ≤ length h.servers
  pub are : AreServers h.servers
  pub added : Added h.zones (root_zones h) zones
  pub seed : (length h.seed ≡ 32) × AllByRecursion (λ b. b < 256) h.seed

-- The head that it is.
abbrev pub head_told : HeadTold → Permits → Zones → Head
head_told h permits zones = record {
  version = h.version;
  config = record { size = min (max h.size 100) 1000000000; forward = h.forward; ip = no_address; ipsend = no_address; zones = zones; permit = permits };
  seed = h.seed;
}

-- The text is the lines of this head, as some head was written, with these pieces behind them.
pub record BeginsWithHead (text : List ℕ) (h : Head) (pieces : Words) : Type 0 where
  pub told : HeadTold
  pub permits : Permits
  pub zones : Zones
  pub stands : IsTold told permits zones
  pub text_is : text ≡ head_text told (join_with_byte 10 pieces)
  pub head_is : h ≡ head_told told permits zones

-- The text is the lines of this head and of these events, and the line `end`.
pub record IsScriptText (text : List ℕ) (h : Head) (events : List Event) : Type 0 where
  pub told : HeadTold
  pub permits : Permits
  pub zones : Zones
  pub stands : IsTold told permits zones
  pub written : AllByRecursion IsWritten events
  pub text_is : text ≡ head_text told (events_text events)
  pub head_is : h ≡ head_told told permits zones

-- A head, as an example.
abbrev pub first_told : HeadTold
first_told = record {
  version = 1;
  size = 1000000;
  forward = false;
  allows = codes "127" ∷ [];
  servers = (198 ∷ 51 ∷ 100 ∷ 1 ∷ []) ∷ [];
  zones = record { text = codes "example.com"; servers = [] } ∷ [];
  seed = replicate 32 0;
}

-- Its zones.
abbrev pub first_zones : Zones
first_zones = record {
  configured =
      record { name = root; places = places_of ((198 ∷ 51 ∷ 100 ∷ 1 ∷ []) ∷ []) } ∷ record { name = codes "example" ∷ codes "com" ∷ []; places = empty_places } ∷ [];
  rule = one;
}
