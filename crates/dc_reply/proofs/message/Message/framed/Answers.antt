use Rattle.std.proofs.Common.{◌∙◌, ◌+◌, ◌++◌, ap, take, List, ℕ}
use Rattle.dc_reply.specs.Pages.{Bytes}
use Rattle.dc_reply.proofs.BytesLemmas.{front-view}
use Rattle.dc_reply.proofs.message.Message.framed.Goals as goal

pub returns : goal.returns
returns c =
    ap (λ (xs : List ℕ). take (14 + c.self.inside.len) xs) c.deref.ensures.value
    ∙ front-view 14 c.self.inside.len c.self.inside.bytes.items
    ∙ ap (λ (b : Bytes). b.front ++ b.bytes) c.self.view_is
