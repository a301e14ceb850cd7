use Rattle.std.proofs.Common.{rules}
use Rattle.dc_shard.proofs.BayLemmas.{may_each, stepped_from_first}
use Rattle.dc_shard.proofs.step.step_at_once.Goals as goal

pub step_in_threads-requires : goal.step_in_threads-requires
step_in_threads-requires g c =
    let may = may_each g.E.Engine.machine g.E.Engine.state 1 c.args.bays.now c.requires in
    search (rules, may)

pub returns : goal.returns
returns g c = stepped_from_first g.O.Effects.acted g.E.Engine.machine g.E.Engine.state _ _ _ c.step_in_threads.ensures.len c.step_in_threads.ensures.each
