use Rattle.std.proofs.Common.{◌≡◌, ◌-◌, length, List}
use Rattle.dc_model.specs.Draws.{draws_of}
use Rattle.dc_event.specs.History.{Exchange}
use Rattle.dc_shard.specs.Bays.{states_of}
use Rattle.dc_shard.specs.Serving.{SoFar}
use Rattle.dc_shard.proofs.serve.serve_shards.Given as goal

abbrev pub invariant-rounds : goal.invariant-rounds
invariant-rounds g l =
    (passed : List Exchange) × record {
      so_far : SoFar g.W.World.history g.E.Engine.machine g.E.Engine.state (draws_of l.fn.draws.seed) l.fn.draws.given l.limit (states_of g.E.Engine.state l.fn.shards.bays.items)
          l.fn.world l.world l.shards.bays.items l.draws.given l.handled l.held l.spare passed;
      seed : l.draws.seed ≡ l.fn.draws.seed;
      stays : g.W.World.faults l.world ≡ g.W.World.faults l.fn.world;
      len : length l.shards.bays.items ≡ length l.fn.shards.bays.items;
    }

abbrev pub decreases-rounds : goal.decreases-rounds
decreases-rounds g l = l.limit - l.handled
