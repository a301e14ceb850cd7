use Rattle.std.proofs.lemmas.Bool.{eq-eqb, eqb-true}
use Rattle.dc_store.proofs.Packed.{no_old_view}
use Rattle.dc_store.proofs.plain.PlainStore.has_no_old.Goals as goal

pub returns : goal.returns
returns c =
    let v = no_old_view c.self.inside c.args.self.now c.len.result c.self.view_is c.self.invariant c.len.ensures in
    (λ t. v.0 (eqb-true _ _ t), λ n. eq-eqb _ _ (v.1 n))
