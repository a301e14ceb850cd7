use Rattle.std.proofs.Common.{sym, subst}
use Rattle.std.proofs.Math.Nat.{min-le_right}
use Rattle.dc_core.specs.Running.{core_machine}
use Rattle.dc_shard.specs.Bays.{MayStepEach}
use Rattle.dc_shards.proofs.SessionLemmas.{may_step}
use Rattle.dnscache_split.proofs.serve.Goals as goal

pub serve_shards-requires-clause-events : goal.serve_shards-requires-clause-events
serve_shards-requires-clause-events g c κs within =
    subst (MayStepEach core_machine 1152921504606846976) (sym c.in_ok-shards.ensures.states) (may_step c.args.cores 1152921504606846976 c.args.config.now (min-le_right 18446744073709551615 1152921504606846976))
