-- How often a query asks: how many transmissions it makes, and how many attempts there are in each.
use Rattle.std.specs.Prelude.{ℕ, ◌+◌, ◌≤◌, Bool, not, ◌&&◌, if◌then◌else◌, ◌==◌, nat_le, nat_lt, List, [], ◌∷◌, length}
use Rattle.dc_model.specs.Limits.{most_turns, most_places, most_udp_tries}
use Rattle.dc_model.specs.Transmission.{Attempt, udp_plan}
use Rattle.dc_machine.specs.Machine.{Active}
use Rattle.dc_machine.specs.Run.{Taken, newly_asked}

-- The first attempt of a transmission: over UDP, on its first local port, with all of the plan's other tries still to come.
abbrev pub is_first : Attempt → Bool
is_first a = not a.over_tcp && (a.refusals == 0 && nat_le (length (udp_plan a.recursive a.servers)) (1 + length a.later))

-- What a query asked so far: its transmissions, and the attempts of the last of them over UDP and over TCP.
pub record Asked : Type 0 where
  pub transmissions : ℕ
  pub udp : ℕ
  pub tcp : ℕ

abbrev pub nothing_asked : Asked
nothing_asked = record { transmissions = 0; udp = 0; tcp = 0 }

-- With what is asked on one more link. Where only the local port was refused, it is the same attempt again.
unfoldable pub with_attempt : Attempt → Asked → Asked
with_attempt a c =
    if is_first a then record { transmissions = c.transmissions + 1; udp = 1; tcp = 0 }
    else (if nat_lt 0 a.refusals then c
    else (if a.over_tcp then record c { tcp = c.tcp + 1 } else record c { udp = c.udp + 1 }))

-- With what one event asked for the query of this serial number.
unfoldable pub asked_more : ℕ → List Active → Asked → Asked
asked_more serial [] c = c
asked_more serial (a ∷ as') c = asked_more serial as' (if a.serial == serial then with_attempt a.attempt c else c)

-- And with what a run's events did.
unfoldable pub asked_on : ℕ → List Taken → Asked → Asked
asked_on serial [] c = c
asked_on serial (t ∷ ts) c = asked_on serial ts (asked_more serial (newly_asked t.before t.stepped.machine) c)

-- What a query asked in a run.
abbrev pub asked_by : ℕ → List Taken → Asked
asked_by serial ts = asked_on serial ts nothing_asked

-- At most 100 transmissions, and in the last of them at most 64 attempts over UDP and 16 over TCP.
pub record IsModest (c : Asked) : Type 0 where
  pub transmissions : c.transmissions ≤ most_turns
  pub udp : c.udp ≤ most_udp_tries
  pub tcp : c.tcp ≤ most_places
