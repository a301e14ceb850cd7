-- Open connections by their places and numbers.
use Rattle.std.specs.Prelude.{ℕ, ◌≢◌, ◌==◌, Bool, List, [], ◌++◌, get_or}
use Rattle.dc_machine.specs.Machine.{Connection, behind_message}
use Rattle.dc_machine.specs.Kept.{Pairwise}

-- What stands where no connection is.
abbrev pub no_connection : Connection
no_connection = record { number = 0; addr = []; port = 0; gathered = []; deadline = 0 }

-- The connection at a place.
unfoldable pub connection_at : List Connection → ℕ → Connection
connection_at cs i = get_or cs i no_connection

-- Whether a connection has this number.
abbrev pub has_number : ℕ → Connection → Bool
has_number number c = c.number == number

-- No two connections have the same number.
abbrev pub AreApart : List Connection → Type 0
AreApart cs = Pairwise (λ (c : Connection) (d : Connection). c.number ≢ d.number) cs

-- A connection with no bytes.
abbrev pub opened : ℕ → List ℕ → ℕ → ℕ → Connection
opened number addr port deadline = record { number = number; addr = addr; port = port; gathered = []; deadline = deadline }

-- A connection on which more bytes came.
abbrev pub with_more : List ℕ → Connection → Connection
with_more bytes c = record c { gathered = c.gathered ++ bytes }

-- A connection whose first message is taken off.
abbrev pub with_less : Connection → Connection
with_less c = record c { gathered = behind_message c.gathered }
