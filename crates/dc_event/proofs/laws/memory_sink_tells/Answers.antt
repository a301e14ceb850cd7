use Rattle.std.proofs.Common.{sym, ◌∙◌}
use Rattle.std.proofs.lemmas.List.{append_cancel_left}
use Rattle.dc_event.proofs.laws.memory_sink_tells.Goals as goal

pub returns : goal.returns
returns c = λ old new xs ys p q. append_cancel_left old.bytes xs ys (sym p.behind ∙ q.behind)
