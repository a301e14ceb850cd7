-- What is told of a simulation.
use Rattle.std.specs.Prelude.{◌≡◌, ℕ, ◌^◌, min, Bool, true, false, List}
use Rattle.dc_event.specs.Told.{GainedFront}
use Rattle.dc_core.specs.Running.{Running}
use Rattle.dc_simulation.specs.World.{World}
use Rattle.dc_simulation.specs.Loop.{Loop, loop, summary}
use Rattle.dc_simulate.specs.declared.command.Simulated.{Simulated}
use Rattle.dc_simulate.specs.declared.command.Simulated.TheVariants.{Done, WriteFault, NoMemory}

-- The resolver and the world.
abbrev pub loop_of : Running → World → Loop
loop_of core world = record { machine = core.machine; world = world }

-- The summary of a number and so many events. More than 2^46 count as 2^46.
abbrev pub summary_of : (seed events : ℕ) → List ℕ
summary_of seed events = summary (loop seed (min events (2 ^ 46)))

-- What a sink gained of a text: all of it; a front of it, where the sink failed; or nothing.
abbrev pub Wrote : {K : Type 0} → (K → List ℕ → K → Type 0) → Simulated → K → List ℕ → K → Type 0
Wrote gained Done old text new = gained old text new
Wrote gained WriteFault old text new = GainedFront gained old text new
Wrote gained NoMemory old text new = new ≡ old

-- Whether the output went well.
abbrev pub writes_well : Simulated → Bool
writes_well Done = true
writes_well WriteFault = false
writes_well NoMemory = true
