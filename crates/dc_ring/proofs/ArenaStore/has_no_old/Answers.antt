use Rattle.std.proofs.lemmas.Bool.{eq-eqb, eqb-true}
use Rattle.dc_ring.proofs.Seal.{opened}
use Rattle.dc_ring.proofs.Added.{old_test}
use Rattle.dc_ring.proofs.ArenaStore.has_no_old.Goals as goal

pub returns : goal.returns
returns c =
    let a = c.self.inside in
    let t = old_test a.chains a.writer a.oldest a.unused c.args.self.now (opened a c.args.self.now c.self.view_is c.self.invariant) in
    (λ e. t.0 (eqb-true _ _ e), λ n. eq-eqb _ _ (t.1 n))
