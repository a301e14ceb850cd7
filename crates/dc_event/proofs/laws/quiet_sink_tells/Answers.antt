use Rattle.dc_event.specs.Bytes.{Grows-tells}
use Rattle.dc_event.proofs.laws.quiet_sink_tells.Goals as goal

pub returns : goal.returns
returns c = λ old new told xs ys p q. Grows-tells old.bytes new.bytes xs ys told p.grows q.grows
