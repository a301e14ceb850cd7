use Rattle.std.proofs.Common.{◌≡◌, ◌+◌, ◌≤◌, List, length, ◌-◌}
use Rattle.dc_model.specs.Draws.{draws_of}
use Rattle.dc_model.specs.Event.{Event}
use Rattle.dc_serve.specs.Serve.{SoFar}
use Rattle.dc_serve.proofs.serve.Given as goal

abbrev pub invariant-events : goal.invariant-events
invariant-events g l =
    (events : List Event) × record {
      so_far : SoFar g.W.World.history g.E.Engine.machine (draws_of l.fn.draws.seed) l.fn.draws.given (g.E.Engine.state l.fn.engine) (g.E.Engine.state l.engine)
          l.fn.world l.world l.handled events;
      drawn : l.draws ≡ record { seed = l.fn.draws.seed; given = l.fn.draws.given + length events };
      stays : g.W.World.faults l.world ≡ g.W.World.faults l.fn.world;
      below : l.handled ≤ l.limit;
    }

abbrev pub decreases-events : goal.decreases-events
decreases-events g l = l.limit - l.handled
