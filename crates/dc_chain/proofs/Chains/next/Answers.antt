use Rattle.std.proofs.Common.{ℕ, List, sym, ◌∙◌, ap, subst}
use Rattle.std.specs.Prelude.{bit_xor}
use Rattle.dc_model.specs.Block.{get4}
use Rattle.dc_chain.specs.Chains.{IsAfter}
use Rattle.dc_chain.proofs.Buckets.{after_fits, link_after}
use Rattle.dc_chain.proofs.Chains.next.Goals as goal

pub get4-requires : goal.get4-requires
get4-requires c =
    let P : List ℕ → Type 0 = λ d. IsAfter d c.args.prev c.args.at c.requires.0 in
    after_fits c.self.inside.arena c.args.prev c.args.at c.requires.0 (subst P (sym c.self.view_is) c.requires.1)

pub returns : goal.returns
returns c = λ behind f.
    ap (bit_xor c.args.prev) (c.get4.ensures ∙ ap (λ b. get4 b c.args.at) c.self.view_is) ∙ link_after c.args.self.now c.args.prev c.args.at behind f
