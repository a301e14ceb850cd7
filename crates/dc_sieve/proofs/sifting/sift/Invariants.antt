use Rattle.std.proofs.Common.{◌≡◌, ◌≤◌, ◌-◌}
use Rattle.dc_model.specs.Draws.{draws_of}
use Rattle.dc_sieve.proofs.SiftLemmas.{SoSifted}
use Rattle.dc_sieve.proofs.sifting.sift.Given as goal

abbrev pub invariant-sifting : goal.invariant-sifting
invariant-sifting g l = record {
  so : SoSifted g.S.Source.took g.S.Source.left g.K.Sink.gained g.W.World.history g.met.S.Source.took_both g.met.K.Sink.gained_both g.met.W.World.history_both l.fn.source l.fn.sink l.fn.world
      (draws_of l.fn.sieve.draws.seed) l.fn.sieve.engine.room l.fn.sieve.engine.servers l.sieve.engine l.sieve.input l.source l.sink l.world;
  seed : l.sieve.draws.seed ≡ l.fn.sieve.draws.seed;
  given : l.sieve.draws.given ≡ l.sieve.engine.handled;
  most : l.sieve.engine.handled ≤ l.limit;
  read_well : g.S.Source.faults l.source ≡ g.S.Source.faults l.fn.source;
  put_well : g.K.Sink.faults l.sink ≡ g.K.Sink.faults l.fn.sink;
  world_well : g.W.World.faults l.world ≡ g.W.World.faults l.fn.world;
}

abbrev pub decreases-sifting : goal.decreases-sifting
decreases-sifting g l = l.limit - l.sieve.engine.handled
