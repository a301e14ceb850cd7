-- The text of events: the line that is read as an event, and the lines of a script's events.
use Rattle.std.specs.Prelude.{◌≡◌, ℕ, ◌<◌, Bool, true, false, List, [], ◌∷◌, ◌++◌, codes, decimal}
use Rattle.std.specs.List.{AllByRecursion}
use Rattle.dc_model.specs.Event.{Event, IsEvent, Kind, tick, request, datagram, link_up, link_bytes, link_down, bind_refused, conn_up, conn_bytes, conn_down}
use Rattle.dc_model.specs.Line.{words}
use Rattle.dc_model.specs.Places.{no_address}
use Rattle.dc_script.specs.Script.{Words, has_number, has_sender, has_bytes_word}
use Rattle.dc_model.specs.Address.{address_text}
use Rattle.dc_script.specs.Text.{bytes_text}
use Rattle.dc_script.specs.Read.{end_text}

-- The word of a kind.
abbrev pub kind_text : Kind → List ℕ
kind_text tick = codes "tick"
kind_text request = codes "request"
kind_text datagram = codes "datagram"
kind_text link_up = codes "linkup"
kind_text link_bytes = codes "linkbytes"
kind_text link_down = codes "linkdown"
kind_text bind_refused = codes "bindrefused"
kind_text conn_up = codes "connup"
kind_text conn_bytes = codes "connbytes"
kind_text conn_down = codes "conndown"

-- A word that stands there only if it is wanted.
abbrev pub word_if : Bool → List ℕ → Words
word_if false w = []
word_if true w = w ∷ []

-- The words of an event: its moment, its kind, and what that kind has of a number, an address with a port, and bytes.
abbrev pub event_words : Event → Words
event_words e =
    codes "at" ∷ decimal e.now ∷ kind_text e.kind
    ∷ (word_if (has_number e.kind) (decimal e.id)
    ++ (word_if (has_sender e.kind) (address_text e.addr) ++ (word_if (has_sender e.kind) (decimal e.port) ++ word_if (has_bytes_word e.kind) (bytes_text e.bytes))))

-- The line of an event, without its line feed.
unfoldable pub event_text : Event → List ℕ
event_text e = words (event_words e)

-- The lines of events, and the line `end` behind them.
abbrev pub events_text : List Event → List ℕ
events_text [] = end_text
events_text (e ∷ es) = event_text e ++ (10 ∷ events_text es)

-- An event that a script can hold: within the bounds of events, of bytes, and without what its kind doesn't have.
pub record IsWritten (e : Event) : Type 0 where
  pub bounds : IsEvent e
  pub octets : AllByRecursion (λ o. o < 256) e.addr
  pub bytes : AllByRecursion (λ b. b < 256) e.bytes
  pub no_number : has_number e.kind ≡ false → e.id ≡ 0
  pub no_sender : has_sender e.kind ≡ false → (e.addr ≡ no_address) × (e.port ≡ 0)
  pub no_bytes : has_bytes_word e.kind ≡ false → e.bytes ≡ []
