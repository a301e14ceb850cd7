use Rattle.dc_script.proofs.ActionLemmas.{Wrote-tells}
use Rattle.dc_script.proofs.laws.world_tells_done.Goals as goal

pub returns : goal.returns
returns g c = λ old new told whole x y one two p q. Wrote-tells g.K.Sink.gained g.K.Sink.refused g.K.Sink.faults old new told whole _ _ one two p.done q.done
