use Rattle.std.proofs.Common.{◌≡◌, ◌≤◌, ◌+◌, ℕ, List, length, vec_len, rules, true, ap, sym, ◌∙◌, subst, arith}
use Rattle.dc_model.specs.Transmission.{is_whole}
use Rattle.dc_model.specs.Message.{u16_at}
use Rattle.dc_transmit.specs.Gathered.{Gathered, message_of}
use Rattle.dc_transmit.proofs.GatherLemmas.{kept_is, whole_least}
use Rattle.dc_transmit.proofs.gathering.Gathering.keep_message.Goals as goal

pub u16_at-requires : goal.u16_at-requires
u16_at-requires c =
    let least = whole_least c.self.inside.buffer.items (subst (λ (g : Gathered). is_whole g.bytes ≡ true) (sym c.self.view_is) c.requires) in
    rw (ap (λ (b : List ℕ). length b) c.deref.ensures.value) least.0

pub invariant_of-self : goal.invariant_of-self
invariant_of-self c =
    let least = whole_least c.self.inside.buffer.items (subst (λ (g : Gathered). is_whole g.bytes ≡ true) (sym c.self.view_is) c.requires) in
    let number : c.u16_at.result ≡ u16_at c.self.inside.buffer.items 0 = c.u16_at.ensures ∙ ap (λ (b : List ℕ). u16_at b 0) c.deref.ensures.value in
    let long : 2 + c.u16_at.result ≤ vec_len c.self.inside.buffer = search rules in
    let size : vec_len c.truncate.new.self ≡ 2 + c.u16_at.result = omega (arith, c.truncate.ensures.len, long) in
    let fits : c.u16_at.result ≤ 65535 = omega (arith, c.u16_at.type_inv) in
    search rules
