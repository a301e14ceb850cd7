use Rattle.std.proofs.Common.{Box, List, map, ap, ◌∙◌}
use Rattle.std.specs.declared.alloc.Global.{Global}
use Rattle.dc_lookup.specs.Filter.{filter_wake}
use Rattle.dc_filter.specs.Sifter.{Sifter, alone}
use Rattle.dc_lookup.specs.Filter as model
use Rattle.dc_filter.specs.Queue.{slots_of}
use Rattle.dc_filter.specs.declared.slot.Slot.{Slot}
use Rattle.dc_filter.proofs.engine.FilterEngineEngine.wake.Goals as goal

pub returns : goal.returns
unfolding filter_wake
returns c =
    c.soonest.ensures
    ∙ ap (λ (q : List (Box Slot Global)). model.soonest (map (λ (s : model.Slot). model.due_at s.at) (slots_of q))) c.deref.ensures.value
    ∙ ap (λ (s : Sifter). filter_wake (alone s)) c.self.view_is
