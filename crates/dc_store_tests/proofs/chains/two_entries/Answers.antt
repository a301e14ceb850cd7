use Rattle.std.proofs.Common.{[], ◌∷◌, inr}
use Rattle.dc_model.specs.Layout.{Place}
use Rattle.dc_chain.specs.Chains.{place}
use Rattle.dc_store_tests.proofs.Two.{older_is_tail}
use Rattle.dc_store_tests.proofs.chains.two_entries.Goals as goal

pub put_at-requires-2-clause-clear : goal.put_at-requires-2-clause-clear
put_at-requires-2-clause-clear g c =
    let p : Place = place c.args.row.older c.args.older_key.now c.args.body.now 9 in
    (p ∷ [], c.put_at.ensures.holds [] c.requires.empty tt, (inr c.requires.apart, tt))

pub look_at_two-requires : goal.look_at_two-requires
look_at_two-requires g c =
    let p : Place = place c.args.row.older c.args.older_key.now c.args.body.now 9 in
    c.put_at-2.ensures.holds (p ∷ []) (c.put_at.ensures.holds [] c.requires.empty tt) (inr c.requires.apart, tt)

pub unlink_last-size-requires : goal.unlink_last-size-requires
unlink_last-size-requires g c =
    let p : Place = place c.args.row.older c.args.older_key.now c.args.body.now 9 in
    let q : Place = place c.args.row.newer c.args.newer_key.now c.args.body.now 9 in
    let h = c.put_at-2.ensures.holds (p ∷ []) (c.put_at.ensures.holds [] c.requires.empty tt) (inr c.requires.apart, tt) in
    (q ∷ [], [], p, older_is_tail c.put_at-2.new.chains c.args.row.older c.args.row.newer c.args.older_key.now c.args.newer_key.now c.args.body.now h)
