-- What an event makes of one line.
use Rattle.std.specs.Prelude.{ℕ, ◌+◌, Bool, true, ◌||◌, ◌==◌, List, [], ◌∷◌, Option, Some, None}
use Rattle.dc_model.specs.Name.{Name, is_digit}
use Rattle.dc_model.specs.Message.{kind_ptr, Message}
use Rattle.dc_model.specs.Draws.{shuffled}
use Rattle.dc_model.specs.Event.{Event, Action}
use Rattle.dc_model.specs.Transmission.{Attempt, After, opening_of, started, after_event}
use Rattle.dc_transmit.specs.Attempts.{occasion}
use Rattle.dc_lookup.specs.Text.{first_host}
use Rattle.dc_lookup.specs.Filter.{Progressed, fresh, asked, done, gets_on}

-- A byte of an address in text.
abbrev pub is_address_byte : ℕ → Bool
is_address_byte b = is_digit b || b == 46

-- The host that an accepted packet answers.
abbrev pub host_answered : Option Message → Option Name
host_answered None = None
host_answered (Some m) = first_host m

-- How far the line has got, what is done, and the links used so far.
pub record Gone : Type 0 where
  pub at : Progressed
  pub actions : List Action
  pub links : ℕ

-- The first attempt: the servers are shuffled, and recursion is wanted.
abbrev pub first_attempt : Name → (servers : List (List ℕ)) → (links : ℕ) → Event → (draws : List ℕ) → Attempt
first_attempt n servers links e draws = started n kind_ptr true (shuffled draws servers) (occasion e.now draws links)

-- What follows for a line.
abbrev pub gone_by : After → (line : List ℕ) → Gone
gone_by x line = record { at = gets_on x.progress line; actions = x.actions; links = x.links }

-- An event comes to a line. One that is done hears nothing.
unfoldable pub line_step : Progressed → (line : List ℕ) → (servers : List (List ℕ)) → (links : ℕ) → Event → (draws : List ℕ) → Gone
line_step (fresh n) line servers links e draws = record {
  at = asked (first_attempt n servers links e draws);
  actions = opening_of (first_attempt n servers links e draws) ∷ [];
  links = links + 1;
}
line_step (asked a) line servers links e draws = gone_by (after_event e a (occasion e.now draws links)) line
line_step (done text) line servers links e draws = record { at = done text; actions = []; links = links }
