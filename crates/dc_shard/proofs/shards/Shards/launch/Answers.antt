use Rattle.std.proofs.Common.{ap, sym, ◌∙◌, subst, arith}
use Rattle.dc_shard.proofs.BayLemmas.{opening_first}
use Rattle.dc_shard.proofs.shards.Shards.launch.Goals as goal

pub returns-clause-acted : goal.returns-clause-acted
returns-clause-acted g c =
    let opening = g.E.Engine.machine.opening in
    let least = c.args.self.now.least in
    let first = ap (λ b. opening (g.E.Engine.state b.core)) c.index_mut.ensures.value ∙ sym (opening_first g.E.Engine.state opening c.args.self.now.bays.items _ (omega (arith, least))) in
    subst (λ xs. g.W.Effects.acted c.args.out.now xs c.launch.new.out) first c.launch.ensures.acted
