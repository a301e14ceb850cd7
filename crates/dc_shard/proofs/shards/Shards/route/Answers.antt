use Rattle.std.proofs.Common.{◌≡◌, length, map, ap, sym, ◌∙◌, arith}
use Rattle.dc_split.specs.Split.{due_core, due_from}
use Rattle.dc_shard.specs.Bays.{states_of}
use Rattle.dc_shard.proofs.BayLemmas.{tick_as, other_as, length_states}
use Rattle.dc_shard.proofs.shards.Shards.route.Goals as goal

pub returns-then-is_tick-clause-core : goal.returns-then-is_tick-clause-core
returns-then-is_tick-clause-core g c =
    tick_as g.E.Engine.machine _ _ c.args.inbox.now (c.is_tick.ensures.yes c.if-is_tick.true)
    (c.due_core.ensures.core ∙ ap due_core c.due_from.ensures.due
    ∙ ap (λ bs. due_core (due_from 0 (map g.E.Engine.machine.wake (states_of g.E.Engine.state bs)))) c.deref.ensures.value)

pub returns-clause-core : goal.returns-clause-core
returns-clause-core g c =
    let bays = c.args.self.now.bays in
    let whole : bays.len ≡ length bays.items = omega (arith, bays.ok.0) in
    other_as g.E.Engine.machine _ _ _ c.args.inbox.now c.core_of.ensures.core (c.len-cores.ensures ∙ whole ∙ sym (length_states g.E.Engine.state c.args.self.now.bays.items)) (c.is_tick.ensures.no c.if-is_tick.false)
