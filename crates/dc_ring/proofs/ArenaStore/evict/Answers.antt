use Rattle.std.proofs.Common.{ℕ, ◌+◌, List, [], length, ap, arith}
use Rattle.dc_model.specs.Cache.{Cache, evicted}
use Rattle.dc_model.specs.Layout.{Place}
use Rattle.dc_ring.specs.declared.ArenaStore.TheInside.{Inside}
use Rattle.dc_ring.proofs.Seal.{sealed, sealed_view, oldest_of, evicted_all, evicted_one}
use Rattle.dc_ring.proofs.ArenaStore.evict.Goals as goal

pub unlink_last-size-requires : goal.unlink_last-size-requires
unlink_last-size-requires c =
    let o = oldest_of c.self.inside c.args.self.now c.self.view_is c.self.invariant c.requires in
    (o.rest, [], record { at = c.self.inside.oldest; entry = o.entry }, o.tail)

pub overflow_add-self : goal.overflow_add-self
overflow_add-self c =
    let o = oldest_of c.self.inside c.args.self.now c.self.view_is c.self.invariant c.requires in
    let n = c.unlink_last-size.ensures.size o.rest [] (record { at = c.self.inside.oldest; entry = o.entry }) o.tail in
    let w = o.within in let m = o.most in
    omega arith

pub invariant_of-self : goal.invariant_of-self
invariant_of-self c =
    let a = c.self.inside in
    let s : Cache = c.args.self.now in
    let o = oldest_of a s c.self.view_is c.self.invariant c.requires in
    let p : Place = record { at = a.oldest; entry = o.entry } in
    let d : List ℕ = c.unlink_last-size.new.self in
    let k = c.unlink_last-size.ensures.others o.rest [] p o.tail in
    let z = c.unlink_last-size.ensures.size o.rest [] p o.tail in
    let m : ℕ = length c.bytes.result.now in
    let n : Inside = record a { chains = d; oldest = m; unused = m } in
    let e = c.if-self.true in
    sealed n (evicted s) (ap (λ (q : Cache). q.motion) c.self.view_is)
    (evicted_all a s c.self.view_is c.self.invariant o d c.unlink_last-size.ensures.len k m (ap (λ (b : List ℕ). length b) c.bytes.ensures) (omega (arith, z, e)))

pub invariant_of-self-else-self : goal.invariant_of-self-else-self
invariant_of-self-else-self c =
    let a = c.self.inside in
    let s : Cache = c.args.self.now in
    let o = oldest_of a s c.self.view_is c.self.invariant c.requires in
    let p : Place = record { at = a.oldest; entry = o.entry } in
    let d : List ℕ = c.unlink_last-size.new.self in
    let k = c.unlink_last-size.ensures.others o.rest [] p o.tail in
    let z = c.unlink_last-size.ensures.size o.rest [] p o.tail in
    let m : ℕ = a.oldest + c.unlink_last-size.result in
    let n : Inside = record a { chains = d; oldest = m } in
    sealed n (evicted s) (ap (λ (q : Cache). q.motion) c.self.view_is)
    (evicted_one a s c.self.view_is c.self.invariant o d c.unlink_last-size.ensures.len k m (ap (λ j. a.oldest + j) z) c.if-self.false)

pub returns-then-self : goal.returns-then-self
returns-then-self c =
    let a = c.self.inside in
    let s : Cache = c.args.self.now in
    let o = oldest_of a s c.self.view_is c.self.invariant c.requires in
    let p : Place = record { at = a.oldest; entry = o.entry } in
    let d : List ℕ = c.unlink_last-size.new.self in
    let k = c.unlink_last-size.ensures.others o.rest [] p o.tail in
    let z = c.unlink_last-size.ensures.size o.rest [] p o.tail in
    let m : ℕ = length c.bytes.result.now in
    let n : Inside = record a { chains = d; oldest = m; unused = m } in
    let e = c.if-self.true in
    sealed_view n (evicted s) (ap (λ (q : Cache). q.motion) c.self.view_is)
    (evicted_all a s c.self.view_is c.self.invariant o d c.unlink_last-size.ensures.len k m (ap (λ (b : List ℕ). length b) c.bytes.ensures) (omega (arith, z, e)))

pub returns-else-self : goal.returns-else-self
returns-else-self c =
    let a = c.self.inside in
    let s : Cache = c.args.self.now in
    let o = oldest_of a s c.self.view_is c.self.invariant c.requires in
    let p : Place = record { at = a.oldest; entry = o.entry } in
    let d : List ℕ = c.unlink_last-size.new.self in
    let k = c.unlink_last-size.ensures.others o.rest [] p o.tail in
    let z = c.unlink_last-size.ensures.size o.rest [] p o.tail in
    let m : ℕ = a.oldest + c.unlink_last-size.result in
    let n : Inside = record a { chains = d; oldest = m } in
    sealed_view n (evicted s) (ap (λ (q : Cache). q.motion) c.self.view_is)
    (evicted_one a s c.self.view_is c.self.invariant o d c.unlink_last-size.ensures.len k m (ap (λ j. a.oldest + j) z) c.if-self.false)
