use Rattle.std.proofs.Common.{length, slice_index_or, subst}
use Rattle.dc_shard.specs.Bays.{Stepped}
use Rattle.dc_shard.proofs.step.step_in_threads.Goals as goal

pub returns-clause-each : goal.returns-clause-each
returns-clause-each g c i d l =
    let at = (c.for_each_mut.ensures i d l).1 in
    subst (λ old. Stepped g.O.Effects.acted g.E.Engine.machine g.E.Engine.state (length c.args.bays.now) i old (slice_index_or c.for_each_mut.new.s i d)) at.argument_is
    (subst (λ new. Stepped g.O.Effects.acted g.E.Engine.machine g.E.Engine.state (length c.args.bays.now) i at.argument.now new) at.left at.call)
