-- The grammar of the lines in a script's head, each for itself.
use Rattle.std.specs.Prelude.{ℕ, ◌^◌, Bool, true, false, ◌&&◌, if◌then◌else◌, ◌==◌, nat_le, min, max, bytes_eq, List, [], ◌∷◌, length, Option, Some, None, option_map, codes}
use Rattle.std.specs.List.{list_all}
use Rattle.std.specs.Result.{result_ok}
use Rattle.dc_model.specs.Name.{Name, address_of, from_dotted}
use Rattle.dc_model.specs.Places.{places_of}
use Rattle.dc_model.specs.Rules.{if_filled}
use Rattle.dc_text.specs.Numbers.{number_below}
use Rattle.dc_script.specs.Script.{Words, words_of, ◌>>=◌, is_lower_digit, bytes_spelled, at_end}

-- What a line says.
pub data HeadLine : Type 0 where
  -- the version of the script
  version_line : ℕ → HeadLine
  -- the number of bytes of the cache
  size_line : ℕ → HeadLine
  -- whether all questions are forwarded
  forward_line : Bool → HeadLine
  -- who may ask, in text
  allow_line : List ℕ → HeadLine
  -- the places of the root's servers
  root_line : List (List ℕ) → HeadLine
  -- another zone, and the places of its servers
  zone_line : Name → List (List ℕ) → HeadLine
  -- the 32 bytes of the seed
  seed_line : List ℕ → HeadLine
  -- the end of the head
  begin_line : HeadLine

-- Words

-- The version that a word names: 1 or 2.
abbrev pub version_word : List ℕ → Option ℕ
version_word w = if bytes_eq w (codes "1") then Some 1 else if bytes_eq w (codes "2") then Some 2 else None

-- A size of the cache, brought into 100 to 1000000000 bytes.
abbrev pub size_word : List ℕ → Option ℕ
size_word w = option_map (λ n. min (max n 100) 1000000000) (number_below (2 ^ 64) w)

-- Whether a word says yes or no.
abbrev pub yes_word : List ℕ → Option Bool
yes_word w = if bytes_eq w (codes "yes") then Some true else if bytes_eq w (codes "no") then Some false else None

-- The 32 bytes that a word of 64 digits spells.
abbrev pub seed_word : List ℕ → Option (List ℕ)
seed_word w = if list_all is_lower_digit w && length w == 64 then Some (bytes_spelled w) else None

-- A server's address, which isn't 0.0.0.0.
abbrev pub server_word : List ℕ → Option (List ℕ)
server_word w = address_of w >>= if_filled

-- The servers' addresses that words say, where each is one.
abbrev pub servers_said : Words → Option (List (List ℕ))
servers_said [] = Some []
servers_said (w ∷ ws) = server_word w >>= λ a. option_map (λ as'. a ∷ as') (servers_said ws)

-- The places of at most sixteen servers, which fill them from the first on.
unfoldable pub places_said : Words → Option (List (List ℕ))
places_said ws = if nat_le (length ws) 16 then option_map places_of (servers_said ws) else None

-- A name other than the root.
abbrev pub unless_root : Name → Option Name
unless_root [] = None
unless_root (l ∷ ls) = Some (l ∷ ls)

abbrev pub zone_word : List ℕ → Option Name
zone_word w = result_ok (from_dotted w) >>= unless_root

-- Lines

-- The one word that is left.
unfoldable pub only_word : Words → Option (List ℕ)
only_word [] = None
only_word (w ∷ []) = Some w
only_word (w ∷ v ∷ ws) = None

-- The root has a server at least.
abbrev pub root_said : Words → Option HeadLine
root_said [] = None
root_said (w ∷ ws) = option_map root_line (places_said (w ∷ ws))

-- A zone and its servers: `@` is the root.
unfoldable pub zone_said : Words → Option HeadLine
zone_said [] = None
zone_said (w ∷ ws) =
    if bytes_eq w (codes "@") then root_said ws else
    (zone_word w >>= λ name. option_map (zone_line name) (places_said ws))

-- What words say, of which the first is this.
unfoldable pub heading_by : List ℕ → Words → Option HeadLine
heading_by w ws =
    if bytes_eq w (codes "dnscache-script") then option_map version_line (only_word ws >>= version_word) else
    if bytes_eq w (codes "cachesize") then option_map size_line (only_word ws >>= size_word) else
    if bytes_eq w (codes "forwardonly") then option_map forward_line (only_word ws >>= yes_word) else
    if bytes_eq w (codes "allow") then option_map allow_line (only_word ws) else
    if bytes_eq w (codes "zone") then zone_said ws else
    if bytes_eq w (codes "seed") then option_map seed_line (only_word ws >>= seed_word) else
    if bytes_eq w (codes "begin") then at_end ws begin_line else None

abbrev pub heading_said : Words → Option HeadLine
heading_said [] = None
heading_said (w ∷ ws) = heading_by w ws

-- What a line says.
unfoldable pub heading_of : List ℕ → Option HeadLine
heading_of text = heading_said (words_of text)
