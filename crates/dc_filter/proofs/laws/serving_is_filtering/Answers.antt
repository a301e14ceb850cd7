use Rattle.dc_filter.proofs.Serving.{served}
use Rattle.dc_filter.proofs.laws.serving_is_filtering.Goals as goal

pub returns : goal.returns
returns c = served
