use Rattle.std.proofs.Common.{◌≡◌, ℕ, ◌+◌, ◌++◌, List, length, take, drop, arith, ap, ◌∙◌}
use Rattle.std.specs.Vec.{with_items}
use Rattle.std.proofs.lemmas.List.{with_items_is, length-append}
use Rattle.dc_reply.specs.Pages.{Bytes}
use Rattle.dc_reply.proofs.BytesLemmas.{put-view}
use Rattle.dc_reply.proofs.message.Message.put.Goals as goal

pub returns-clause-bytes : goal.returns-clause-bytes
returns-clause-bytes c =
    let more : List ℕ = c.args.more.now in
    let len : ℕ = c.self.inside.len in
    let items : (with_items c.self.inside.bytes c.write.new.bytes).items ≡ c.write.new.bytes = with_items_is c.self.inside.bytes c.write.new.bytes (omega arith) in
    ap (λ ys. take (len + length more) (drop 14 ys)) items
    ∙ put-view 14 len c.deref_mut.result.now c.write.new.bytes more _ (omega (arith, ap length c.deref_mut.ensures.value)) c.write.ensures
    ∙ ap (λ ys. take len (drop 14 ys) ++ more) c.deref_mut.ensures.value
    ∙ ap (λ (b : Bytes). b.bytes ++ more) c.self.view_is

pub returns-clause-len : goal.returns-clause-len
returns-clause-len c = ap length (returns-clause-bytes c) ∙ length-append c.args.self.now.bytes c.args.more.now
