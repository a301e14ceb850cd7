use Rattle.std.proofs.Common.{ap, arith, length}
use Rattle.dc_model.specs.Name.{Name, lower}
use Rattle.dc_reply.proofs.EntryLemmas.{front-IsWire, front-name}
use Rattle.dc_reply.proofs.suffixes.Entry.set.Goals as goal

pub invariant_of-self : goal.invariant_of-self
invariant_of-self c =
    let size = ap length c.wire-wire.ensures.bytes in
    (front-IsWire c.wire-wire.result.now c.copy_from_slice.new.self _ c.args.name.now c.wire-wire.ensures.name c.wire-wire.ensures.bytes c.copy_from_slice.ensures.after, omega (arith, size, c.requires.short), c.requires.near)

pub returns : goal.returns
returns c =
    ap (λ (n : Name). record { name = lower n; place = c.args.place })
    (front-name c.wire-wire.result.now c.copy_from_slice.new.self _ c.args.name.now c.wire-wire.ensures.name c.wire-wire.ensures.bytes c.copy_from_slice.ensures.after)
