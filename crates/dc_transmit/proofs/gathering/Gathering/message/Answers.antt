use Rattle.std.proofs.Common.{◌≡◌, ◌≤◌, ◌<◌, ◌+◌, ℕ, List, length, rules, false, true, ap, subst, ◌∙◌}
use Rattle.dc_model.specs.Message.{u16_at}
use Rattle.dc_model.specs.Transmission.{is_whole}
use Rattle.dc_transmit.specs.Gathered.{Gathered}
use Rattle.dc_transmit.proofs.GatherLemmas.{short_not_whole, not_whole, whole}
use Rattle.dc_transmit.proofs.gathering.Gathering.message.Goals as goal

pub returns-then-len-lt2-clause-message : goal.returns-then-len-lt2-clause-message
returns-then-len-lt2-clause-message c =
    let short : length c.self.inside.buffer.items < 2 = search rules in
    subst (λ (g : Gathered). is_whole g.bytes ≡ false) c.self.view_is (short_not_whole c.self.inside.buffer.items short)

pub returns-then-len-behind-clause-message : goal.returns-then-len-behind-clause-message
returns-then-len-behind-clause-message c =
    let short : length c.self.inside.buffer.items < 2 + c.u16_at.result = search rules in
    let number : c.u16_at.result ≡ u16_at c.self.inside.buffer.items 0 = c.u16_at.ensures ∙ ap (λ (b : List ℕ). u16_at b 0) c.deref.ensures.value in
    subst (λ (g : Gathered). is_whole g.bytes ≡ false) c.self.view_is (not_whole c.self.inside.buffer.items c.u16_at.result number short)

pub returns-clause-whole : goal.returns-clause-whole
returns-clause-whole c =
    let enough : 2 + c.u16_at.result ≤ length c.self.inside.buffer.items = search rules in
    let number : c.u16_at.result ≡ u16_at c.self.inside.buffer.items 0 = c.u16_at.ensures ∙ ap (λ (b : List ℕ). u16_at b 0) c.deref.ensures.value in
    subst (λ (g : Gathered). is_whole g.bytes ≡ true) c.self.view_is (whole c.self.inside.buffer.items c.u16_at.result number enough)
