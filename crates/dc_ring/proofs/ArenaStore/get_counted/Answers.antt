use Rattle.std.proofs.Common.{◌≡◌, ℕ, List, length, sym, ◌∙◌, ap, None, Some, option_and_then}
use Rattle.dc_model.specs.Cache.{Cache, found, hit_of}
use Rattle.dc_model.specs.Chain.{place_of}
use Rattle.dc_model.specs.Layout.{chain}
use Rattle.dc_ring.proofs.Found.{nothing, its_places, its_head, its_holds, found_at, found_entry}
use Rattle.dc_ring.proofs.ArenaStore.get_counted.Goals as goal

pub walk-requires : goal.walk-requires
walk-requires g c = its_head c.self.inside c.args.self.now c.args.key.now c.bucket-bucket.result c.self.view_is c.self.invariant c.bucket-bucket.ensures

pub body-requires : goal.body-requires
body-requires g c =
    let a = c.self.inside in
    let s : Cache = c.args.self.now in
    let k : List ℕ = c.args.key.now in
    let h = c.bucket-bucket.result in
    let q = c.bucket-bucket.ensures in
    let places = its_places a s k h c.self.view_is c.self.invariant q in
    let e : Some c.in-Some.at ≡ place_of 101 a.chains k (chain (length a.chains) h places) = sym c.in-Some.is ∙ c.walk.ensures.first places (its_holds a s k h c.self.view_is c.self.invariant q) in
    let t = found_entry a s k h c.self.view_is c.self.invariant q c.in-Some.at e in
    (t.0, t.2)

pub expiry-requires : goal.expiry-requires
expiry-requires g c =
    let a = c.self.inside in
    let s : Cache = c.args.self.now in
    let k : List ℕ = c.args.key.now in
    let h = c.bucket-bucket.result in
    let q = c.bucket-bucket.ensures in
    let places = its_places a s k h c.self.view_is c.self.invariant q in
    let e : Some c.in-Some.at ≡ place_of 101 a.chains k (chain (length a.chains) h places) = sym c.in-Some.is ∙ c.walk.ensures.first places (its_holds a s k h c.self.view_is c.self.invariant q) in
    let t = found_entry a s k h c.self.view_is c.self.invariant q c.in-Some.at e in
    (t.0, t.2)

pub returns-in-None-clause-same : goal.returns-in-None-clause-same
returns-in-None-clause-same g c =
    let a = c.self.inside in
    let s : Cache = c.args.self.now in
    let k : List ℕ = c.args.key.now in
    let h = c.bucket-bucket.result in
    let q = c.bucket-bucket.ensures in
    let places = its_places a s k h c.self.view_is c.self.invariant q in
    let e : None ≡ place_of 101 a.chains k (chain (length a.chains) h places) = sym c.in-None.is ∙ c.walk.ensures.first places (its_holds a s k h c.self.view_is c.self.invariant q) in
    nothing a.chains (length a.chains) c.args.now (found k s) (found_at a s k h c.self.view_is c.self.invariant q None e)

pub returns-in-Some-clause-same : goal.returns-in-Some-clause-same
returns-in-Some-clause-same g c =
    let a = c.self.inside in
    let s : Cache = c.args.self.now in
    let k : List ℕ = c.args.key.now in
    let h = c.bucket-bucket.result in
    let q = c.bucket-bucket.ensures in
    let places = its_places a s k h c.self.view_is c.self.invariant q in
    let e : Some c.in-Some.at ≡ place_of 101 a.chains k (chain (length a.chains) h places) = sym c.in-Some.is ∙ c.walk.ensures.first places (its_holds a s k h c.self.view_is c.self.invariant q) in
    let t = found_entry a s k h c.self.view_is c.self.invariant q c.in-Some.at e in
    let b = c.body.ensures t.0 t.2 in
    let x = c.expiry.ensures t.0 t.2 in
    c.of.ensures t.0 (sym b) (sym x) ∙ sym (ap (λ o. option_and_then (hit_of c.args.now) o) t.1)
