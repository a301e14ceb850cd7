use Rattle.std.proofs.Common.{refl}
use Rattle.dc_image.proofs.FrontLemmas.{none_noted}
use Rattle.dc_image.proofs.fronts.Fronts.new.Goals as goal

pub returns : goal.returns
returns c = λ block e. none_noted block c.args.heads _ e refl (c.in_ok-fronts.ensures.items_if_clones_equal (λ y same. same))
