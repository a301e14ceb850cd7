use Rattle.std.proofs.Common.{ap}
use Rattle.dc_model.specs.Cache.{Cache, rotated}
use Rattle.dc_ring.specs.declared.ArenaStore.TheInside.{Inside}
use Rattle.dc_ring.proofs.Seal.{sealed, sealed_view, rotated_marks}
use Rattle.dc_ring.proofs.ArenaStore.rotate.Goals as goal

pub invariant_of-self : goal.invariant_of-self
invariant_of-self c =
    let a = c.self.inside in
    let n : Inside = record a { writer = c.hsize-heads.result; oldest = c.hsize-heads.result; unused = a.writer } in
    sealed n (rotated c.args.self.now) (ap (λ (k : Cache). k.motion) c.self.view_is) (rotated_marks a c.args.self.now c.hsize-heads.result c.self.view_is c.self.invariant c.hsize-heads.ensures c.requires.old c.requires.young)

pub returns : goal.returns
returns c =
    let a = c.self.inside in
    let n : Inside = record a { writer = c.hsize-heads.result; oldest = c.hsize-heads.result; unused = a.writer } in
    sealed_view n (rotated c.args.self.now) (ap (λ (k : Cache). k.motion) c.self.view_is) (rotated_marks a c.args.self.now c.hsize-heads.result c.self.view_is c.self.invariant c.hsize-heads.ensures c.requires.old c.requires.young)
