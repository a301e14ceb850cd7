-- The head of a script: its lines, in this order. What stands behind it are the events.
use Rattle.std.specs.Prelude.{◌≡◌, ℕ, ◌+◌, ◌-◌, Bool, false, if◌then◌else◌, nat_le, List, [], ◌∷◌, length, replicate, ◌⊎◌, Option, Some, None, Result, Ok, Err}
use Rattle.dc_model.specs.Name.{root}
use Rattle.dc_model.specs.Places.{no_address}
use Rattle.dc_model.specs.Rules.{Rule, one, two, Zones, ZoneRefusal, no_zones, add_zone, Permits, PermitRefusal, add_permit}
use Rattle.dc_rules.specs.declared.config.Config.{Config}
use Rattle.dc_script.specs.Script.{Words, Said, bad_at, said_from, pieces_of, most_line}
use Rattle.dc_script.specs.Read.{line_event}
use Rattle.dc_script.specs.Heading.{HeadLine, version_line, size_line, forward_line, allow_line, root_line, zone_line, seed_line, begin_line, heading_of}

-- What a head says, or the part of it that was read.
pub record Head : Type 0 where
  pub version : ℕ
  pub config : Config
  pub seed : List ℕ

-- Nothing was read. A script says no addresses on which clients are served or from which questions are sent: they are 0.0.0.0.
abbrev pub no_head : Head
no_head = record {
  version = 0;
  config = record { size = 0; forward = false; ip = no_address; ipsend = no_address; zones = no_zones; permit = [] };
  seed = replicate 32 0;
}

-- The lines that may come next.
pub data Stage : Type 0 where
  -- the version, once
  at_version : Stage
  -- the cache's size, once
  at_size : Stage
  -- whether forwarding, once
  at_forward : Stage
  -- permissions, any number, and the root's zone behind them, once
  at_allows : Stage
  -- other zones, any number, and the seed behind them, once
  at_zones : Stage
  -- the end of the head, once
  at_begin : Stage

-- What a line makes of a head.
pub data HeadStep : Type 0 where
  -- the line doesn't belong there
  refused : HeadStep
  -- other lines may come
  going : Stage → Head → HeadStep
  -- the head is whole
  begun : Head → HeadStep

-- Under version 1 SOA records aren't kept, and under version 2 they are.
abbrev pub rule_under : ℕ → Rule
rule_under version = if nat_le 2 version then two else one

abbrev pub with_version : ℕ → Head → Head
with_version version h = record h { version = version; config = record h.config { zones = record h.config.zones { rule = rule_under version } } }

abbrev pub with_size : ℕ → Head → Head
with_size size h = record h { config = record h.config { size = size } }

abbrev pub with_forward : Bool → Head → Head
with_forward forward h = record h { config = record h.config { forward = forward } }

-- One more permission, unless it is refused.
abbrev pub with_permit : Head → Result Permits PermitRefusal → HeadStep
with_permit h (Ok permit) = going at_allows (record h { config = record h.config { permit = permit } })
with_permit h (Err why) = refused

-- One more zone, unless it is refused.
abbrev pub with_zone : Head → Result Zones ZoneRefusal → HeadStep
with_zone h (Ok zones) = going at_zones (record h { config = record h.config { zones = zones } })
with_zone h (Err why) = refused

-- What a line makes of a head, by the lines that may come.
unfoldable pub step_by : Stage → Head → HeadLine → HeadStep
step_by at_version h (version_line version) = going at_size (with_version version h)
step_by at_size h (size_line size) = going at_forward (with_size size h)
step_by at_forward h (forward_line forward) = going at_allows (with_forward forward h)
step_by at_allows h (allow_line text) = with_permit h (add_permit text h.config.permit)
step_by at_allows h (root_line places) = with_zone h (add_zone root places h.config.zones)
step_by at_zones h (zone_line name places) = with_zone h (add_zone name places h.config.zones)
step_by at_zones h (seed_line seed) = going at_begin (record h { seed = seed })
step_by at_begin h begin_line = begun h
step_by stage h line = refused

abbrev pub step_said : Stage → Head → Option HeadLine → HeadStep
step_said stage h None = refused
step_said stage h (Some line) = step_by stage h line

-- The same of the line's text, which has at most 131200 bytes.
unfoldable pub head_step : Stage → Head → List ℕ → HeadStep
head_step stage h text = if nat_le (length text) most_line then step_said stage h (heading_of text) else refused

-- What a head comes to: what it says, how many lines it has and the pieces behind it; or the number of the first bad line.
pub data HeadRead : Type 0 where
  behind : Head → ℕ → Words → HeadRead
  other : ℕ → HeadRead

-- The head that goes on behind so many lines with these pieces. The last piece isn't a whole line.
unfoldable pub head_from : ℕ → HeadStep → Words → HeadRead
head_from k refused pieces = other k
head_from k (begun h) pieces = behind h k pieces
head_from k (going stage h) [] = other (k + 1)
head_from k (going stage h) (piece ∷ []) = other (k + 1)
head_from k (going stage h) (text ∷ piece ∷ pieces) = head_from (k + 1) (head_step stage h text) (piece ∷ pieces)

-- The head of a text.
abbrev pub head_of : List ℕ → HeadRead
head_of text = head_from 0 (going at_version no_head) (pieces_of text)

-- Whole scripts

-- What a script says: its head, unless a line of it is bad; the events behind it; and the number of the first bad line, where there
-- is one.
pub record ScriptSaid : Type 0 where
  pub head : Option Head
  pub said : Said

abbrev pub said_behind : HeadRead → ScriptSaid
said_behind (behind h k pieces) = record { head = Some h; said = said_from line_event (k + 1) pieces }
said_behind (other k) = record { head = None; said = bad_at k }

abbrev pub script_said : List ℕ → ScriptSaid
script_said text = said_behind (head_of text)

-- What may follow the bytes that were taken of a source: what it has left, where that is told; or nothing.
abbrev pub MayFollow : Option (List ℕ) → List ℕ → Type 0
MayFollow left tail = (left ≡ Some tail) ⊎ (tail ≡ [])

-- How many lines may still come.

abbrev pub lines_ahead : Stage → ℕ
lines_ahead at_version = 6
lines_ahead at_size = 5
lines_ahead at_forward = 4
lines_ahead at_allows = 3
lines_ahead at_zones = 2
lines_ahead at_begin = 1

-- Each permission and each zone takes a place.
abbrev pub most_ahead : Stage → Head → ℕ
most_ahead stage h = lines_ahead stage + (4096 - length h.config.permit) + (256 - length h.config.zones.configured)
