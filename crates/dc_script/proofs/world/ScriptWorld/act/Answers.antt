use Rattle.dc_script.specs.World.{Acted-one}
use Rattle.dc_script.proofs.world.ScriptWorld.act.Goals as goal

pub returns : goal.returns
returns g c = rw (← c.self.view_is) (Acted-one g.K.Sink.gained g.K.Sink.refused g.K.Sink.faults _ _ _ _ _ c.write.ensures.written c.write.ensures.fated c.write.ensures.start)
