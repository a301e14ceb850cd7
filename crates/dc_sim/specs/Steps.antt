-- What each kind of event makes of the world.
use Rattle.std.specs.Prelude.{◌≡◌, ℕ, ◌+◌}
use Rattle.dc_model.specs.Event.{Event}
use Rattle.dc_simulation.specs.World.{World, client_asks, later, ticks, counted}

-- The clock has gone on by one.
abbrev pub risen : World → World
risen w = record w { clock = w.clock + 1 }

-- The client asked.
abbrev pub IsRequest : World → Event → World → Type 0
IsRequest old e new = counted (client_asks (risen old)) ≡ record { event = e; world = new }

-- The clock went on towards a moment.
abbrev pub IsTick : ℕ → World → Event → World → Type 0
IsTick moment old e new = counted (ticks (later moment (risen old))) ≡ record { event = e; world = new }
