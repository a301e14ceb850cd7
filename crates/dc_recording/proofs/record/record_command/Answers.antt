use Rattle.std.proofs.Common.{subst}
use Rattle.dc_event.specs.Causes.{fares_behind}
use Rattle.dc_event.specs.Told.{GainedFront}
use Rattle.dc_play.specs.Playing.{limit_of}
use Rattle.dc_status.specs.Faults.{fault_of, sink_well}
use Rattle.dc_recording.proofs.TopLemmas.{recorded_unready, recorded_headless, recorded_behind}
use Rattle.dc_recording.proofs.record.record_command.Goals as goal

pub returns-in-Err-clause-recorded : goal.returns-in-Err-clause-recorded
returns-in-Err-clause-recorded g c =
    let s = g.S.Source in
    let w = g.W.World in
    let k = g.K.Sink in
    recorded_unready s.took s.left w.history w.used_up w.broken k.gained _ _ _ _ (limit_of c.args.turns) c.args.world.now c.args.sink.now c.in-Err.status _ _
    (g.met.W.World.history_none _) (g.met.K.Sink.gained_none _) c.in-Err.ensures.readies c.refused.ensures.status c.refused.ensures.core

pub returns-in-Failed-clause-recorded : goal.returns-in-Failed-clause-recorded
returns-in-Failed-clause-recorded g c =
    let s = g.S.Source in
    let w = g.W.World in
    let k = g.K.Sink in
    recorded_headless s.took s.left w.history w.used_up w.broken k.gained _ _ _ _ (limit_of c.args.turns) c.args.world.now c.args.sink.now c.put_all.new.sink c.in-Ok.ready _ _
    (g.met.W.World.history_none _) (subst (λ l. GainedFront k.gained c.args.sink.now l c.put_all.new.sink) c.deref.ensures.value c.in-Failed.ensures.whole)
    c.in-Ok.ensures.readies c.refused-in-Failed.ensures.status c.refused-in-Failed.ensures.core

pub returns-in-Taken-clause-recorded : goal.returns-in-Taken-clause-recorded
returns-in-Taken-clause-recorded g c =
    let s = g.S.Source in
    let w = g.W.World in
    let k = g.K.Sink in
    recorded_behind s.took s.left w.history w.used_up w.broken k.gained _ _ _ _ (limit_of c.args.turns) g.met.K.Sink.gained_both c.args.world.now c.serve_lent.new.world c.args.sink.now c.put_all.new.sink
    c.serve_lent.new.sink c.deref.result.now c.in-Ok.ready _ _ c.in-Taken.ensures.whole.1 c.deref.ensures.value c.in-Ok.ensures.readies c.serve_lent.ensures.records

pub returns-in-Taken-clause-sink_fares : goal.returns-in-Taken-clause-sink_fares
returns-in-Taken-clause-sink_fares g c =
    let k = g.K.Sink in
    fares_behind k.gained g.met.K.Sink.gained_both k.refused k.faults (sink_well (fault_of c.serve_lent.result.status)) c.args.sink.now c.put_all.new.sink c.serve_lent.new.sink c.deref.result.now
    c.in-Taken.ensures.whole.1 c.in-Taken.ensures.fares c.serve_lent.ensures.sink_fares
