use Rattle.std.proofs.Common.{arith}
use Rattle.dc_shards.proofs.MemoryLemmas.{alike_length}
use Rattle.dc_shards.proofs.memory.memory_of.Goals as goal

pub new-requires-2-clause-most : goal.new-requires-2-clause-most
new-requires-2-clause-most c = omega (arith, c.requires.most, alike_length c.in_ok-bays.bays.items _ c.args.cores c.in_ok-bays.ensures.states)
