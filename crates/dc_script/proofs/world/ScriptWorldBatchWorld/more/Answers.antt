use Rattle.dc_script.specs.World.{Passed-none}
use Rattle.dc_script.proofs.Furthering.{further_passed}
use Rattle.dc_script.proofs.world.ScriptWorldBatchWorld.more.Goals as goal

pub returns-then-self-clause-history : goal.returns-then-self-clause-history
returns-then-self-clause-history g c =
    let source = g.met.S.Source in
    let sink = g.met.K.Sink in
    Passed-none g.S.Source.took source.took_none source.took_both g.S.Source.refused g.S.Source.faults g.K.Sink.gained sink.gained_none sink.gained_both g.K.Sink.refused g.K.Sink.faults c.args.self.now

pub returns-in-None-clause-history : goal.returns-in-None-clause-history
returns-in-None-clause-history g c =
    let source = g.met.S.Source in
    let sink = g.met.K.Sink in
    Passed-none g.S.Source.took source.took_none source.took_both g.S.Source.refused g.S.Source.faults g.K.Sink.gained sink.gained_none sink.gained_both g.K.Sink.refused g.K.Sink.faults c.args.self.now

pub returns-in-Some-clause-history : goal.returns-in-Some-clause-history
returns-in-Some-clause-history g c =
    let source = g.met.S.Source in
    let sink = g.met.K.Sink in
    let found = c.further.ensures in
    rw (← c.self.view_is) (further_passed g.S.Source.took source.took_none source.took_both g.S.Source.refused g.S.Source.faults g.K.Sink.gained sink.gained_none sink.gained_both g.K.Sink.refused g.K.Sink.faults
    _ _ _ _ _ _ _ _ found.heard found.source found.start found.failed c.if-self.false)
