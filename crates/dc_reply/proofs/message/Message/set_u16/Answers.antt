use Rattle.std.proofs.Common.{◌≡◌, ℕ, ◌+◌, ◌++◌, List, length, take, drop, arith, refl, sym, ap, ◌∙◌}
use Rattle.std.specs.Vec.{with_items}
use Rattle.std.proofs.lemmas.List.{with_items_is, length-append, length-take-le, length-drop}
use Rattle.dc_model.specs.Message.{u16}
use Rattle.dc_reply.specs.Pages.{Bytes}
use Rattle.dc_reply.proofs.BytesLemmas.{set-view}
use Rattle.dc_reply.proofs.message.Message.set_u16.Goals as goal

pub returns-clause-bytes : goal.returns-clause-bytes
returns-clause-bytes c =
    let more : List ℕ = u16 c.args.n in
    let at : ℕ = c.args.at in
    let len : ℕ = c.self.inside.len in
    let xs : List ℕ = c.deref_mut.result.now in
    let value = c.deref_mut.ensures.value in
    let old : take len (drop 14 xs) ≡ c.args.self.now.bytes = ap (λ ys. take len (drop 14 ys)) value ∙ ap (λ (b : Bytes). b.bytes) c.self.view_is in
    let whole : length xs ≡ 67014 = ap length value ∙ c.self.invariant.1 in
    let d = length-drop 14 xs in
    let shown : length c.args.self.now.bytes ≡ len = ap length (sym old) ∙ length-take-le len (drop 14 xs) (omega (arith, c.self.invariant.0)) in
    let items : (with_items c.self.inside.bytes c.write.new.bytes).items ≡ c.write.new.bytes = with_items_is c.self.inside.bytes c.write.new.bytes (omega arith) in
    ap (λ ys. take len (drop 14 ys)) items
    ∙ set-view 14 len at 2 xs c.write.new.bytes more (omega (arith, c.self.invariant.0)) refl (omega (arith, c.requires))
    (c.write.ensures ∙ ap (λ (b : List ℕ). take (14 + at) xs ++ (b ++ drop (14 + at + length b) xs)) c.to_be_bytes.ensures)
    ∙ ap (λ ys. take at ys ++ (more ++ drop (at + 2) ys)) old

pub returns-clause-len : goal.returns-clause-len
returns-clause-len c =
    let at : ℕ = c.args.at in
    let d = length-drop (at + 2) c.args.self.now.bytes in
    let t = length-take-le at c.args.self.now.bytes (omega (arith, c.requires)) in
    let a = length-append (take at c.args.self.now.bytes) (u16 c.args.n ++ drop (at + 2) c.args.self.now.bytes) in
    ap length (returns-clause-bytes c) ∙ omega (arith, a, t, d, c.requires)
