use Rattle.std.proofs.Common.{min, ◌^◌}
use Rattle.dc_simulate.proofs.LoopLemmas.{told_is}
use Rattle.dc_simulate.proofs.command.told.Goals as goal

pub returns : goal.returns
returns c =
    told_is c.args.seed (min c.args.events (2 ^ 46)) c.in_ok-core.core c.run.new.core c.in_ok-world.world c.run.new.world c.from_seed-draws.result c.seed.result c.summary.result.items
    c.in_ok-core.ensures c.in_ok-world.ensures c.from_seed-draws.ensures c.seed.ensures c.run.ensures c.summary.ensures
