use Rattle.std.proofs.Common.{ℕ, List, length, sym, subst}
use Rattle.dc_model.specs.Layout.{IsHead}
use Rattle.dc_chain.proofs.Buckets.{head_fits}
use Rattle.dc_chain.proofs.Chains.first.Goals as goal

pub get4-requires : goal.get4-requires
get4-requires c =
    let P : List ℕ → Type 0 = λ d. IsHead (length d) c.args.bucket in
    head_fits c.self.inside.arena c.args.bucket c.self.invariant.least (subst P (sym c.self.view_is) c.requires)
