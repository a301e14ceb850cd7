use Rattle.dc_script.proofs.TellLemmas.{HandedOut-tells}
use Rattle.dc_script.proofs.laws.world_tells_heard.Goals as goal

pub returns : goal.returns
returns g c = λ old new told x y p q. HandedOut-tells g.S.Source.took g.S.Source.refused g.S.Source.faults old new told _ _ p.heard q.heard
