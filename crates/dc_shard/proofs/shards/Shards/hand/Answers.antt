use Rattle.std.proofs.Common.{◌≡◌, Some, ap, refl, ◌∙◌, length, arith}
use Rattle.dc_engine.specs.View.{kind_of}
use Rattle.dc_split.specs.Routing.{number_by}
use Rattle.dc_shard.proofs.BayLemmas.{set_givens, set_states, set_outs, set_count, inner_as}
use Rattle.dc_shard.proofs.shards.Shards.hand.Goals as goal

pub returns-clause-givens : goal.returns-clause-givens
returns-clause-givens g c =
    let bays = c.args.self.now.bays in
    let whole : bays.len ≡ length bays.items = omega (arith, bays.ok.0) in
    let event = c.event-event.result in
    let number = c.inner_number.ensures ∙ ap (λ k. number_by (kind_of event.kind) k event.id) (c.len-cores.ensures ∙ whole) in
    let seen = c.set.ensures.event ∙ inner_as (length c.args.self.now.bays.items) c.inner_number.result event c.args.inbox.now c.bytes.result.now c.event-event.ensures.event c.bytes.ensures.bytes number in
    set_givens c.args.self.now.bays.items c.args.index _ _ c.requires.within (ap (λ e. Some (record { event = e; words = c.args.draws.now })) seen)

pub returns-clause-states : goal.returns-clause-states
returns-clause-states g c = set_states g.E.Engine.state c.args.self.now.bays.items c.args.index _ _ c.requires.within (ap (λ b. g.E.Engine.state b.core) c.index_mut-bay.ensures.value)

pub returns-clause-outs : goal.returns-clause-outs
returns-clause-outs g c = set_outs c.args.self.now.bays.items c.args.index _ _ c.requires.within (ap (λ b. b.out) c.index_mut-bay.ensures.value)

pub returns-clause-count : goal.returns-clause-count
returns-clause-count g c = set_count c.args.self.now.bays.items c.args.index _ c.index_mut-bay.result.now c.requires.within refl (c.requires.free _)
