-- The text of actions, a line each.
use Rattle.std.specs.Prelude.{◌≡◌, ◌<◌, ◌^◌, ℕ, length, List, [], ◌∷◌, ◌++◌, flat_map, codes, decimal}
use Rattle.std.specs.List.{AllByRecursion}
use Rattle.dc_model.specs.Event.{Action, reply, conn_reply, conn_close, udp, tcp, link_write, link_close, line}
use Rattle.dc_model.specs.Address.{address_text}
use Rattle.dc_model.specs.Line.{hex, words}
use Rattle.dc_script.specs.Lines.{IsOneLine}

-- Bytes in hexadecimal digits, or a dash where there are none.
abbrev pub bytes_text : List ℕ → List ℕ
bytes_text [] = codes "-"
bytes_text (b ∷ bs) = hex (b ∷ bs)

-- The words of an action. Numbers are decimal.
abbrev pub action_words : Action → List (List ℕ)
action_words (reply addr port bytes) = codes "reply" ∷ address_text addr ∷ decimal port ∷ bytes_text bytes ∷ []
action_words (conn_reply conn bytes) = codes "connreply" ∷ decimal conn ∷ bytes_text bytes ∷ []
action_words (conn_close conn) = codes "connclose" ∷ decimal conn ∷ []
action_words (udp link local_port server query) =
    codes "udp" ∷ decimal link ∷ decimal local_port ∷ address_text server ∷ bytes_text query ∷ []
action_words (tcp link local_port server) = codes "tcp" ∷ decimal link ∷ decimal local_port ∷ address_text server ∷ []
action_words (link_write link bytes) = codes "linkwrite" ∷ decimal link ∷ bytes_text bytes ∷ []
action_words (link_close link) = codes "linkclose" ∷ decimal link ∷ []
action_words (line text) = codes "line" ∷ text ∷ []

-- The line of an action: its words with a space between each two, and a line feed.
unfoldable pub action_text : Action → List ℕ
action_text a = words (action_words a) ++ (10 ∷ [])

-- The lines of actions, in order.
unfoldable pub text_of : List Action → List ℕ
text_of as' = flat_map action_text as'

-- An address of four octets.
abbrev pub IsAddress : List ℕ → Type 0
IsAddress addr = (length addr ≡ 4) × AllByRecursion (λ o. o < 256) addr

-- An action whose numbers are as large as the calls of an engine can say, and whose line, if it is one, holds no line feed.
abbrev pub IsOneAction : Action → Type 0
IsOneAction (reply addr port bytes) = IsAddress addr × (port < 2 ^ 16)
IsOneAction (conn_reply conn bytes) = conn < 2 ^ 64
IsOneAction (conn_close conn) = conn < 2 ^ 64
IsOneAction (udp link local_port server query) = (link < 2 ^ 64) × (local_port < 2 ^ 16) × IsAddress server
IsOneAction (tcp link local_port server) = (link < 2 ^ 64) × (local_port < 2 ^ 16) × IsAddress server
IsOneAction (link_write link bytes) = link < 2 ^ 64
IsOneAction (link_close link) = link < 2 ^ 64
IsOneAction (line text) = IsOneLine text

abbrev pub AreOneActions : List Action → Type 0
AreOneActions as' = AllByRecursion IsOneAction as'
