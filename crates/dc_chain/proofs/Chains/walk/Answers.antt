use Rattle.std.proofs.Common.{◌≡◌, ℕ, ◌+◌, List, length, sym, subst}
use Rattle.dc_model.specs.Chain.{place_of}
use Rattle.dc_chain.specs.Chains.{reads}
use Rattle.dc_model.specs.Layout.{IsHead, Holds, chain}
use Rattle.dc_chain.proofs.Buckets.{head_fits, bucket_of_block}
use Rattle.dc_chain.proofs.Chains.walk.Goals as goal

pub walk-requires-clause-head : goal.walk-requires-clause-head
walk-requires-clause-head g c =
    let P : List ℕ → Type 0 = λ d. IsHead (length d) c.args.bucket in
    head_fits c.self.inside.arena c.args.bucket c.self.invariant.least (subst P (sym c.self.view_is) c.requires)

pub walk-requires-clause-chain : goal.walk-requires-clause-chain
walk-requires-clause-chain g c =
    let a = c.self.inside in
    let P : List ℕ → Type 0 = λ d. IsHead (length d) c.args.bucket in
    let i = subst P (sym c.self.view_is) c.requires in
    (chain (length a.arena) c.args.bucket c.self.invariant.ps, bucket_of_block a.arena (length a.arena) c.args.bucket c.self.invariant.ps i c.self.invariant.holds)

pub returns-clause-first : goal.returns-clause-first
returns-clause-first g c = λ ps.
    let a = c.self.inside in
    let P : List ℕ → Type 0 = λ d. IsHead (length d) c.args.bucket in
    let i = subst P (sym c.self.view_is) c.requires in
    let Q : List ℕ → Type 0 = λ d. Holds d (length d) ps → c.walk.result ≡ place_of 101 d c.args.key.now (chain (length d) c.args.bucket ps) in
    subst Q c.self.view_is (λ h. c.walk.ensures.first (chain (length a.arena) c.args.bucket ps) (bucket_of_block a.arena (length a.arena) c.args.bucket ps i h))

pub returns-clause-cost : goal.returns-clause-cost
returns-clause-cost g c = λ ps.
    let a = c.self.inside in
    let P : List ℕ → Type 0 = λ d. IsHead (length d) c.args.bucket in
    let i = subst P (sym c.self.view_is) c.requires in
    let Q : List ℕ → Type 0 = λ d. Holds d (length d) ps → c.walk.new.steps ≡ c.args.steps.now + reads 101 d c.args.key.now (chain (length d) c.args.bucket ps) in
    subst Q c.self.view_is (λ h. c.walk.ensures.cost (chain (length a.arena) c.args.bucket ps) (bucket_of_block a.arena (length a.arena) c.args.bucket ps i h))
