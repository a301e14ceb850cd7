use Rattle.std.proofs.Common.{◌≡◌}
use Rattle.dc_model.specs.Draws.{draws_of}
use Rattle.dc_simulation.specs.Loop.{loops}
use Rattle.dc_simulate.specs.Told.{loop_of}
use Rattle.dc_simulate.proofs.LoopLemmas.{Goes, left}
use Rattle.dc_simulate.proofs.run.run.Given as goal

abbrev pub invariant-events : goal.invariant-events
invariant-events l =
    let words = draws_of l.fn.draws.seed in
    Goes words (loops words l.fn.world.events (loop_of l.fn.core l.fn.world)) l.fn.world.events l.core l.world
    × (l.draws.seed ≡ l.fn.draws.seed)
    × (l.draws.given ≡ l.world.given)

abbrev pub decreases-events : goal.decreases-events
decreases-events l = left l.world
