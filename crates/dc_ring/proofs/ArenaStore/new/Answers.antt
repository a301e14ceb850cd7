use Rattle.std.proofs.Common.{ℕ, arith, refl}
use Rattle.dc_model.specs.Cache.{empty}
use Rattle.dc_ring.specs.declared.ArenaStore.TheInside.{Inside}
use Rattle.dc_ring.proofs.Shown.{opening}
use Rattle.dc_ring.proofs.Seal.{sealed}
use Rattle.dc_ring.proofs.ArenaStore.new.Goals as goal

pub invariant_of-result : goal.invariant_of-result
invariant_of-result c =
    let n : ℕ = c.min-size.result in
    let a : Inside = record { chains = c.in_ok-chains.chains; writer = c.hsize-writer.result; oldest = n; unused = n; motion = 0 } in
    let m = c.min-size.ensures in let x = c.max.ensures in
    sealed a (empty n) refl (opening c.in_ok-chains.chains c.hsize-writer.result n (omega arith) (omega arith) c.in_ok-chains.ensures.bytes c.hsize-writer.ensures)
