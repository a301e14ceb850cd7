use Rattle.std.proofs.Common.{◌≡◌, ◌∙◌, ◌+◌, ap, take, drop, length, List, ℕ, arith}
use Rattle.std.specs.Vec.{with_items}
use Rattle.std.proofs.lemmas.List.{with_items_is}
use Rattle.dc_reply.specs.Pages.{Bytes}
use Rattle.dc_reply.proofs.BytesLemmas.{front-put}
use Rattle.dc_reply.proofs.message.Message.set_front.Goals as goal

pub returns : goal.returns
returns c =
    let len : ℕ = c.self.inside.len in
    let xs : List ℕ = c.deref_mut.result.now in
    let items : (with_items c.self.inside.bytes c.write.new.bytes).items ≡ c.write.new.bytes = with_items_is c.self.inside.bytes c.write.new.bytes (omega arith) in
    let old : take len (drop 14 xs) ≡ c.args.self.now.bytes =
    ap (λ ys. take len (drop 14 ys)) c.deref_mut.ensures.value ∙ ap (λ (b : Bytes). b.bytes) c.self.view_is in
    let parts = front-put 14 len (0 + length c.args.front.now) xs c.write.new.bytes c.args.front.now c.args.self.now.bytes c.told-front (omega arith) c.write.ensures old in
    ap (λ (ys : List ℕ). record { front = take 14 ys; bytes = take len (drop 14 ys) }) items
    ∙ ap (λ (f : List ℕ). record { front = f; bytes = take len (drop 14 c.write.new.bytes) }) parts.0
    ∙ ap (λ (b : List ℕ). record { front = c.args.front.now; bytes = b }) parts.1
