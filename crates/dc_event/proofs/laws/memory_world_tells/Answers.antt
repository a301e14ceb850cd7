use Rattle.dc_event.specs.Bytes.{Grows-tells}
use Rattle.dc_event.proofs.laws.memory_world_tells.Goals as goal

pub returns : goal.returns
returns c = λ old new told xs ys p q. Grows-tells old.history new.history xs ys told p q
