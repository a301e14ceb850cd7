use Rattle.std.proofs.Common.{◌≡◌, ◌∙◌, sym, ap, arith, refl, option_map, Some}
use Rattle.dc_model.proofs.SizeLemmas.{hsize_least}
use Rattle.dc_store.specs.Found.{entry_of, look_up}
use Rattle.dc_store.specs.Lists.{entries}
use Rattle.dc_store.proofs.Packed.{used, get_some}
use Rattle.dc_store.proofs.plain.PlainStoreStore.get.Goals as goal

pub find_in-requires-clause-heads : goal.find_in-requires-clause-heads
find_in-requires-clause-heads c = omega (arith, c.self.invariant.heads, hsize_least c.self.inside.size)

pub find_in-requires-clause-block : goal.find_in-requires-clause-block
find_in-requires-clause-block c = rw (c.deref.ensures.value, c.deref-2.ensures.value) (used c.self.inside c.self.invariant)

pub returns-in-Some : goal.returns-in-Some
returns-in-Some c =
    let a = c.self.inside in
    let key = c.args.key.now in
    let found : Some (entry_of c.in-Some.found) ≡ look_up 101 a.size key (entries a.records.items a.bytes.items) =
    ap (λ o. option_map entry_of o) (sym c.in-Some.is) ∙ c.find_in.ensures a.size c.self.invariant.heads
    ∙ (λ i. look_up 101 a.size key (entries (c.deref.ensures.value i) (c.deref-2.ensures.value i))) in
    c.of.ensures (entry_of c.in-Some.found) refl refl ∙ get_some a c.args.self.now key c.args.now (entry_of c.in-Some.found) c.self.view_is found
