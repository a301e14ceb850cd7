-- A round and a place stand for an attempt's try and for the tries to come.
use Rattle.std.specs.Prelude.{ℕ, ◌+◌, List, [], ◌∷◌, ◌++◌, Option, Some, None}
use Rattle.dc_model.specs.Transmission.{Try}
use Rattle.dc_transmit.specs.Rounds.{wait_of, waits_after, tries_at, tries_over, places_from}
use Rattle.dc_transmit.specs.declared.course.Course.{Course}

-- The present try.
abbrev pub present_of : Course → Try
present_of c = record { wait = wait_of c.round; place = c.place }

-- The tries to come.
unfoldable pub later_of : Course → List (List ℕ) → List Try
later_of c servers = tries_at (wait_of c.round) (places_from (c.place + 1) servers) ++ tries_over (waits_after c.round) servers

-- The present try and those to come, or none.
unfoldable pub tries_of : Option Course → List (List ℕ) → List Try
tries_of None servers = []
tries_of (Some c) servers = present_of c ∷ later_of c servers
