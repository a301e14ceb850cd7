use Rattle.std.proofs.Common.{refl, ◌∙◌}
use Rattle.dc_ring.specs.declared.ArenaStore.TheInside.{Inside}
use Rattle.dc_ring.proofs.Seal.{sealed, sealed_view}
use Rattle.dc_ring.proofs.Shown.{still, still_layout}
use Rattle.dc_ring.proofs.ArenaStore.adopt.Goals as goal

pub invariant_of-result : goal.invariant_of-result
invariant_of-result c =
    let m = c.args.marks in
    let n : Inside = record { chains = c.adopt.result; writer = m.writer; oldest = m.oldest; unused = m.unused; motion = 0 } in
    sealed n (still c.requires.0) refl (still_layout c.args.bytes.items c.adopt.result m.writer m.oldest m.unused c.requires.0 c.requires.1 (c.adopt.ensures ∙ c.of.ensures))

pub returns : goal.returns
returns c = λ k l.
    let m = c.args.marks in
    let n : Inside = record { chains = c.adopt.result; writer = m.writer; oldest = m.oldest; unused = m.unused; motion = 0 } in
    sealed_view n (still k) refl (still_layout c.args.bytes.items c.adopt.result m.writer m.oldest m.unused k l (c.adopt.ensures ∙ c.of.ensures))
