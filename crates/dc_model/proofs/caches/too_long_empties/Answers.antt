use Rattle.dc_model.proofs.FoundLemmas.{put-empty}
use Rattle.dc_model.proofs.caches.too_long_empties.Goals as goal

pub returns : goal.returns
returns c = put-empty
