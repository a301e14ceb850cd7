use Rattle.dc_event.specs.Bytes.{Moved, Moved-none, Moved-both}
use Rattle.dc_event.specs.Quiet.{Filled, Filled-none, Filled-both}
use Rattle.dc_script.specs.World.{Passed-none}
use Rattle.dc_script.proofs.FaultyLemmas.{listen_missed, listen_reached}
use Rattle.dc_script.proofs.fault_world.FaultWorldWorld.listen.Goals as goal

pub returns-then-call-clause-history : goal.returns-then-call-clause-history
returns-then-call-clause-history c =
    listen_missed _ (λ a. Passed-none Moved Moved-none Moved-both _ _ Filled Filled-none Filled-both _ _ a) c.args.self.now c.call.new.self c.args.addr c.args.send_from c.call.result
    c.call.ensures.answer c.if-call.true c.call.ensures.counts

pub returns-clause-history : goal.returns-clause-history
returns-clause-history c =
    listen_reached _ c.args.self.now c.call.new.self _ c.listen.new.self c.args.addr c.args.send_from _ c.call.result c.call.ensures.answer c.if-call.false c.call.ensures.counts c.self.view_is
    c.listen.ensures.history
