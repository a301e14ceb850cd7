use Rattle.std.proofs.lemmas.List.Elements.{All-tail}
use Rattle.dc_event.specs.Kept.{IsSound}
use Rattle.dc_event.proofs.memory_world.MemoryWorldBatchWorld.more.Goals as goal

pub invariant_of-self-2 : goal.invariant_of-self-2
invariant_of-self-2 c = (All-tail IsSound _ _ (rw c.in-Some.ensures at c.self.invariant.0), c.self.invariant.1)
