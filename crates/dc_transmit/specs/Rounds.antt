-- Rounds of tries, and the places of servers in each.
use Rattle.std.specs.Prelude.{ℕ, ◌+◌, Bool, true, false, List, [], ◌∷◌, map, flat_map, drop, Option, Some, None}
use Rattle.dc_model.specs.Limits.{first_wait, second_wait, third_wait, fourth_wait, tcp_wait}
use Rattle.dc_model.specs.Transmission.{Try, filled_from, round_of}
use Rattle.dc_transmit.specs.declared.round.Round.{Round}
use Rattle.dc_transmit.specs.declared.round.Round.TheVariants.{First, Second, Third, Fourth, Stream}

-- How many milliseconds a server is given in a round.
abbrev pub wait_of : Round → ℕ
wait_of First = first_wait
wait_of Second = second_wait
wait_of Third = third_wait
wait_of Fourth = fourth_wait
wait_of Stream = tcp_wait

-- The waits of the rounds that follow one.
abbrev pub waits_after : Round → List ℕ
waits_after First = second_wait ∷ third_wait ∷ fourth_wait ∷ []
waits_after Second = third_wait ∷ fourth_wait ∷ []
waits_after Third = fourth_wait ∷ []
waits_after Fourth = []
waits_after Stream = []

-- Whether a round goes over TCP.
abbrev pub is_stream : Round → Bool
is_stream First = false
is_stream Second = false
is_stream Third = false
is_stream Fourth = false
is_stream Stream = true

-- Whether bad news is ignored in a round.
abbrev pub is_patient_round : Round → Bool
is_patient_round First = false
is_patient_round Second = false
is_patient_round Third = true
is_patient_round Fourth = false
is_patient_round Stream = false

-- The tries with one wait, at these places.
unfoldable pub tries_at : ℕ → List ℕ → List Try
tries_at wait places = map (λ p. record { wait = wait; place = p }) places

-- The tries of whole rounds.
unfoldable pub tries_over : List ℕ → List (List ℕ) → List Try
tries_over waits servers = flat_map (λ wait. round_of wait servers) waits

-- The tries from the beginning of a round on.
unfoldable pub tries_from : Round → List (List ℕ) → List Try
tries_from round servers = tries_over (wait_of round ∷ waits_after round) servers

-- The places that aren't empty, from one on.
unfoldable pub places_from : ℕ → List (List ℕ) → List ℕ
places_from n servers = filled_from n (drop n servers)

-- A place and those that aren't empty behind it, or none.
unfoldable pub places_of : Option ℕ → List (List ℕ) → List ℕ
places_of None servers = []
places_of (Some n) servers = n ∷ places_from (n + 1) servers
