use Rattle.std.proofs.Common.{◌∙◌}
use Rattle.dc_script.proofs.FaultyLemmas.{wake_fits, wake_over}
use Rattle.dc_script.proofs.fault_world.push_first.Goals as goal

pub returns-then-not-is_full : goal.returns-then-not-is_full
returns-then-not-is_full c =
    c.push.ensures.items ∙ wake_fits c.args.wakes.now.items c.args.wake c.is_full.result c.is_full.ensures.value c.if-not-is_full.true c.is_full.ensures.fits

pub returns-else-not-is_full : goal.returns-else-not-is_full
returns-else-not-is_full c = wake_over c.args.wakes.now.items c.args.wake c.is_full.result c.is_full.ensures.value c.if-not-is_full.false
