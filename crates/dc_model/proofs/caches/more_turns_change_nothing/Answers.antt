use Rattle.dc_model.proofs.CacheLemmas.{placed_by}
use Rattle.dc_model.proofs.caches.more_turns_change_nothing.Goals as goal

pub returns : goal.returns
returns c = placed_by
