use Rattle.dc_script.proofs.FaultyLemmas.{events-reached, actions-reached}
use Rattle.dc_script.proofs.laws.failed_calls_hide_nothing.Goals as goal

pub returns-clause-events : goal.returns-clause-events
returns-clause-events c = events-reached

pub returns-clause-actions : goal.returns-clause-actions
returns-clause-actions c = actions-reached
