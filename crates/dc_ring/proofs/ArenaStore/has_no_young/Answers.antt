use Rattle.std.proofs.Common.{◌∙◌}
use Rattle.std.proofs.lemmas.Bool.{eq-eqb, eqb-true}
use Rattle.dc_ring.proofs.Seal.{opened, heads_is}
use Rattle.dc_ring.proofs.Added.{young_test}
use Rattle.dc_ring.proofs.ArenaStore.has_no_young.Goals as goal

pub returns : goal.returns
returns c =
    let a = c.self.inside in
    let t = young_test a.chains a.writer a.oldest a.unused c.hsize.result c.args.self.now (opened a c.args.self.now c.self.view_is c.self.invariant) (c.hsize.ensures ∙ heads_is a c.args.self.now c.self.view_is) in
    (λ e. t.0 (eqb-true _ _ e), λ n. eq-eqb _ _ (t.1 n))
