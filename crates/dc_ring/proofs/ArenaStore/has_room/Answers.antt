use Rattle.dc_ring.proofs.Seal.{opened}
use Rattle.dc_ring.proofs.Added.{room_test}
use Rattle.dc_ring.proofs.ArenaStore.has_room.Goals as goal

pub returns : goal.returns
returns c = let a = c.self.inside in room_test a.chains a.writer a.oldest a.unused c.args.self.now c.args.size (opened a c.args.self.now c.self.view_is c.self.invariant)
