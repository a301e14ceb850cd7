use Rattle.dc_script.proofs.FaultyLemmas.{more_reached}
use Rattle.dc_script.proofs.fault_world.FaultWorldBatchWorld.more.Goals as goal

pub returns-clause-history : goal.returns-clause-history
returns-clause-history c = more_reached _ c.args.self.now _ c.more.new.self c.more.result c.more.new.inbox c.self.view_is c.more.ensures.history
