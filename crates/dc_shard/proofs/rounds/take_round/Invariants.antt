use Rattle.std.proofs.Common.{◌≡◌, ◌≤◌, ◌+◌, ◌-◌, length, List, ◌∷◌}
use Rattle.std.specs.Prelude.{All}
use Rattle.dc_model.specs.Draws.{draws_of}
use Rattle.dc_model.specs.Event.{Event, IsEvent}
use Rattle.dc_shard.specs.Bays.{states_of}
use Rattle.dc_shard.specs.Rounds.{InRound, gathered_all}
use Rattle.dc_shard.proofs.rounds.take_round.Given as goal

abbrev pub invariant-further : goal.invariant-further
invariant-further g l =
    (more : List Event) × record {
      passed : g.W.World.history l.fn.world (gathered_all more) l.world;
      bounded : All IsEvent more;
      round : InRound g.E.Engine.machine g.E.Engine.state (draws_of l.fn.draws.seed) l.fn.draws.given (states_of g.E.Engine.state l.fn.shards.bays.items) l.shards.bays.items l.order.items
          (l.fn.inbox ∷ more);
      drawn : l.draws ≡ record { seed = l.fn.draws.seed; given = l.fn.draws.given + 1 + length more };
      ordered : length l.order.items ≡ 1 + length more;
      few : 1 + length more ≤ l.fn.most;
      stays : g.W.World.faults l.world ≡ g.W.World.faults l.fn.world;
      len : length l.shards.bays.items ≡ length l.fn.shards.bays.items;
    }

abbrev pub decreases-further : goal.decreases-further
decreases-further g l = l.most - length l.order.items
