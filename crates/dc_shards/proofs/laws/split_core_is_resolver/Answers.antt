use Rattle.dc_shards.proofs.CoreLemmas.{split_states, split_acts}
use Rattle.dc_shards.proofs.laws.split_core_is_resolver.Goals as goal

pub returns-clause-states : goal.returns-clause-states
returns-clause-states c = split_states

pub returns-clause-actions : goal.returns-clause-actions
returns-clause-actions c = split_acts
