use Rattle.std.proofs.Common.{◌≡◌, ℕ, ◌+◌, List, length, sym, ◌∙◌, ap, arith, subst}
use Rattle.std.specs.Int.{to_le_bytes, to_be_bytes, w32, w64}
use Rattle.dc_model.specs.Block.{stored}
use Rattle.dc_arena.proofs.Laws.{set4-is, set8-is}
use Rattle.dc_model.specs.Layout.{EntryAt, Holds}
use Rattle.dc_chain.proofs.Written.{w5, entry_written, rest_untouched}
use Rattle.dc_chain.proofs.links.write.Goals as goal

pub returns : goal.returns
returns c =
    let b : List ℕ = c.args.arena.now in
    let at = c.args.at in
    let k : List ℕ = c.args.key.now in
    let y : List ℕ = c.args.body.now in
    let h = c.requires.room in
    let d1 = c.set4.ensures.bytes ∙ set4-is b (at + 4) (length k) in
    let d2 = c.set4-2.ensures.bytes ∙ set4-is _ (at + 8) (length y) ∙ ap (λ x. stored x (at + 8) (to_le_bytes w32 (length y))) d1 in
    let d3 = c.set8.ensures.bytes ∙ set8-is _ (at + 12) c.args.expiry ∙ ap (λ x. stored x (at + 12) (to_be_bytes w64 c.args.expiry)) d2 in
    let d4 = c.copy_in.ensures.bytes ∙ ap (λ x. stored x (at + 20) k) d3 in
    let w : c.copy_in-2.new.self ≡ w5 b at c.args.expiry k y h = c.copy_in-2.ensures.bytes ∙ ap (λ x. stored x (at + 20 + length k) y) d4 in
    let P : List ℕ → Type 0 = λ d. EntryAt d at (record { key = k; body = y; expiry = c.args.expiry }) in
    record {
      entry = subst P (sym w) (entry_written b at c.args.expiry k y h (omega arith) (omega arith) (omega arith));
      rest = λ ps a cl s. let Q : List ℕ → Type 0 = λ d. Holds d (length b) ps in subst Q (sym w) (rest_untouched b at c.args.expiry k y h (length b) ps a cl s);
      len = let x1 = c.set4.ensures.len in let x2 = c.set4-2.ensures.len in let x3 = c.set8.ensures.len in let x4 = c.copy_in.ensures.len in let x5 = c.copy_in-2.ensures.len in omega arith;
    }
