use Rattle.std.proofs.Common.{sym, ◌∙◌}
use Rattle.std.proofs.lemmas.List.{append_cancel_left}
use Rattle.dc_event.proofs.laws.memory_source_tells.Goals as goal

pub returns : goal.returns
returns c = λ old new xs ys p q. append_cancel_left old.taken xs ys (sym p.moved.behind ∙ q.moved.behind)
