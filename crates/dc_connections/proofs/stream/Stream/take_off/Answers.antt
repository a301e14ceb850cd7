use Rattle.std.proofs.Common.{◌≤◌, ◌+◌, List, ℕ, length, drop, ap, ◌∙◌, subst, arith}
use Rattle.dc_model.specs.Message.{u16_at}
use Rattle.dc_connections.proofs.StreamLemmas.{part_most, part_behind}
use Rattle.dc_connections.proofs.stream.Stream.take_off.Goals as goal

pub overflow_sub-self : goal.overflow_sub-self
overflow_sub-self c =
    let inside : c.used_by_first-used.result ≤ length c.args.self.now =
    subst (λ (b : List ℕ). c.used_by_first-used.result ≤ length b) c.bytes.ensures.bytes c.used_by_first-used.ensures.inside in
    omega (arith, part_most c.self.inside.buffer.items c.args.self.now c.self.inside.start c.self.inside.len c.self.view_is)

pub returns : goal.returns
returns c =
    let used : ℕ = c.used_by_first-used.result in
    let inside : c.used_by_first-used.result ≤ length c.args.self.now =
    subst (λ (b : List ℕ). c.used_by_first-used.result ≤ length b) c.bytes.ensures.bytes c.used_by_first-used.ensures.inside in
    let most : c.used_by_first-used.result ≤ c.self.inside.len =
    omega (arith, part_most c.self.inside.buffer.items c.args.self.now c.self.inside.start c.self.inside.len c.self.view_is) in
    part_behind c.self.inside.buffer.items c.args.self.now c.self.inside.start c.self.inside.len c.used_by_first-used.result c.self.view_is most
    ∙ ap (λ k. drop k c.args.self.now) (c.used_by_first-used.ensures.used ∙ ap (λ (b : List ℕ). 2 + u16_at b 0) c.bytes.ensures.bytes)
