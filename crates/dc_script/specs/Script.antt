-- The grammar of recorded events, a line each.
use Rattle.std.specs.Prelude.{◌≡◌, ◌≤◌, ℕ, ◌+◌, ◌-◌, ◌*◌, ◌%◌, ◌^◌, Bool, true, false, ◌&&◌, ◌||◌, if◌then◌else◌, ◌==◌, nat_le, nat_lt, bytes_eq, List, [], ◌∷◌, length, Option, Some, None, option_map, option_and_then, codes}
use Rattle.std.specs.List.{list_all}
use Rattle.dc_model.specs.Name.{is_digit, address_of}
use Rattle.dc_model.specs.Event.{Event, Kind, tick, request, datagram, link_up, link_bytes, link_down, bind_refused, conn_up, conn_bytes, conn_down}
use Rattle.dc_model.specs.Places.{no_address}
use Rattle.dc_text.specs.Numbers.{number_below}
use Rattle.dc_text.specs.Parts.{parts_of}

infixl 10 ◌>>=◌
abbrev pub ◌>>=◌ : {A B : Type 0} → Option A → (A → Option B) → Option B
o >>= f = option_and_then f o

-- The words of a line: one space stands between each two.
abbrev pub Words : Type 0
Words = List (List ℕ)

abbrev pub words_of : List ℕ → Words
words_of text = parts_of 32 text

-- Bytes in hexadecimal digits

-- A digit, in lower case.
abbrev pub is_lower_digit : ℕ → Bool
is_lower_digit c = is_digit c || (nat_le 97 c && nat_le c 102)

-- The number that it is.
abbrev pub lower_value : ℕ → ℕ
lower_value c = if nat_lt c 97 then c - 48 else c - 87

-- The bytes that digits spell, two digits each.
abbrev pub bytes_spelled : List ℕ → List ℕ
bytes_spelled [] = []
bytes_spelled (c ∷ []) = []
bytes_spelled (c ∷ d ∷ cs) = (16 * lower_value c + lower_value d) ∷ bytes_spelled cs

-- Whether a text spells at most so many bytes, and at least one.
abbrev pub spells : ℕ → List ℕ → Bool
spells most text = list_all is_lower_digit text && (length text % 2 == 0 && (nat_le 1 (length text) && nat_le (length text) (2 * most)))

-- A dash spells no bytes.
abbrev pub is_dash : List ℕ → Bool
is_dash text = bytes_eq text (codes "-")

-- The bytes that a word spells, of which there are at most 65535.
abbrev pub bytes_word : List ℕ → Option (List ℕ)
bytes_word text = if is_dash text then Some [] else if spells 65535 text then Some (bytes_spelled text) else None

-- Kinds of events

-- The kind that a word names.
abbrev pub kind_word : List ℕ → Option Kind
kind_word w =
    if bytes_eq w (codes "tick") then Some tick else if bytes_eq w (codes "request") then Some request else
    if bytes_eq w (codes "datagram") then Some datagram else if bytes_eq w (codes "linkup") then Some link_up else
    if bytes_eq w (codes "linkbytes") then Some link_bytes else if bytes_eq w (codes "linkdown") then Some link_down else
    if bytes_eq w (codes "bindrefused") then Some bind_refused else if bytes_eq w (codes "connup") then Some conn_up else
    if bytes_eq w (codes "connbytes") then Some conn_bytes else if bytes_eq w (codes "conndown") then Some conn_down else None

-- What stands behind the kind, in this order: a number, where the kind has links or connections,
abbrev pub has_number : Kind → Bool
has_number tick = false
has_number request = false
has_number datagram = true
has_number link_up = true
has_number link_bytes = true
has_number link_down = true
has_number bind_refused = true
has_number conn_up = true
has_number conn_bytes = true
has_number conn_down = true

-- an address and a port,
abbrev pub has_sender : Kind → Bool
has_sender tick = false
has_sender request = true
has_sender datagram = true
has_sender link_up = false
has_sender link_bytes = true
has_sender link_down = false
has_sender bind_refused = false
has_sender conn_up = true
has_sender conn_bytes = false
has_sender conn_down = false

-- and bytes.
abbrev pub has_bytes_word : Kind → Bool
has_bytes_word tick = false
has_bytes_word request = true
has_bytes_word datagram = true
has_bytes_word link_up = false
has_bytes_word link_bytes = true
has_bytes_word link_down = false
has_bytes_word bind_refused = false
has_bytes_word conn_up = false
has_bytes_word conn_bytes = true
has_bytes_word conn_down = false

-- Taking words off a line: what a word says, and the words behind it

abbrev pub taken : {A : Type 0} → (List ℕ → Option A) → Words → Option (A × Words)
taken read [] = None
taken read (w ∷ ws) = option_map (λ v. (v, ws)) (read w)

-- A word that stands there only if it is wanted.
unfoldable pub taken_if : {A : Type 0} → Bool → A → (List ℕ → Option A) → Words → Option (A × Words)
taken_if false absent read ws = Some (absent, ws)
taken_if true absent read ws = taken read ws

-- The words behind the first one, which has to be `at`.
unfoldable pub behind_at : Words → Option Words
behind_at [] = None
behind_at (w ∷ ws) = if bytes_eq w (codes "at") then Some ws else None

-- A moment below 2^62, in milliseconds.
unfoldable pub moment_taken : Words → Option (ℕ × Words)
moment_taken ws = taken (number_below (2 ^ 62)) ws

unfoldable pub kind_taken : Words → Option (Kind × Words)
kind_taken ws = taken kind_word ws

-- Something, where no word is left.
unfoldable pub at_end : {A : Type 0} → Words → A → Option A
at_end [] v = Some v
at_end (w ∷ ws) v = None

-- The event that words say.
unfoldable pub event_said : Words → Option Event
event_said ws = do
  said ← behind_at ws
  now ← moment_taken said
  kind ← kind_taken now.1
  number ← taken_if (has_number kind.0) 0 (number_below (2 ^ 64)) kind.1
  addr ← taken_if (has_sender kind.0) no_address address_of number.1
  port ← taken_if (has_sender kind.0) 0 (number_below (2 ^ 16)) addr.1
  bytes ← taken_if (has_bytes_word kind.0) [] bytes_word port.1
  at_end bytes.1 (record { now = now.0; kind = kind.0; id = number.0; addr = addr.0; port = port.0; bytes = bytes.0 })

-- The event of a line.
unfoldable pub event_of_line : List ℕ → Option Event
event_of_line text = event_said (words_of text)

-- Lines of events

-- A line has at most so many bytes.
abbrev pub most_line : ℕ
most_line = 131200

-- What the lines from one on say: events, and the number of the first bad line, where there is one.
pub record Said : Type 0 where
  pub events : List Event
  pub bad : Option ℕ

-- The line of this number is bad.
abbrev pub bad_at : ℕ → Said
bad_at k = record { events = []; bad = Some k }

-- The last line was `end`. What stands behind it makes the next line bad.
abbrev pub said_at_end : ℕ → Words → Said
said_at_end k [] = bad_at (k + 1)
said_at_end k ([] ∷ []) = record { events = []; bad = None }
said_at_end k ([] ∷ w ∷ ws) = bad_at (k + 1)
said_at_end k ((c ∷ cs) ∷ ws) = bad_at (k + 1)

-- An event, and what stands behind it.
abbrev pub with_event : ℕ → Option Event → Said → Said
with_event k None behind = bad_at k
with_event k (Some e) behind = record { events = e ∷ behind.events; bad = behind.bad }

-- A whole line, with the pieces behind it and what they say.
abbrev pub said_by_line : (List ℕ → Option Event) → ℕ → List ℕ → Words → Said → Said
said_by_line read k text pieces behind = if bytes_eq text (codes "end") then said_at_end k pieces else with_event k (read text) behind

-- The pieces of a text between line feeds. The last one isn't a whole line.
unfoldable pub said_from : (List ℕ → Option Event) → ℕ → Words → Said
said_from read k [] = bad_at k
said_from read k (piece ∷ []) = bad_at k
said_from read k (text ∷ piece ∷ pieces) = said_by_line read k text (piece ∷ pieces) (said_from read (k + 1) (piece ∷ pieces))

-- The pieces of a text.
abbrev pub pieces_of : List ℕ → Words
pieces_of text = parts_of 10 text

-- Digits that spell at most 65535 bytes, or none.
pub record AreDigits (text : List ℕ) : Type 0 where
  pub digits : list_all is_lower_digit text ≡ true
  pub even : length text % 2 ≡ 0
  pub most : length text ≤ 131070
