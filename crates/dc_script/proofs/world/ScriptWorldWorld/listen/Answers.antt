use Rattle.dc_script.specs.World.{Passed-listen}
use Rattle.dc_script.proofs.world.ScriptWorldWorld.listen.Goals as goal

pub returns-clause-history : goal.returns-clause-history
returns-clause-history g c =
    let source = g.met.S.Source in
    let sink = g.met.K.Sink in
    rw (← c.self.view_is) (Passed-listen g.S.Source.took source.took_none source.took_both g.S.Source.refused g.S.Source.faults g.K.Sink.gained sink.gained_none sink.gained_both g.K.Sink.refused g.K.Sink.faults _ c.args.addr c.args.send_from)
