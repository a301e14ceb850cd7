use Rattle.dc_play.specs.Playing.{limit_of}
use Rattle.dc_recording.proofs.PassLemmas.{written, some_history, some_text}
use Rattle.dc_recording.proofs.written.serve_written.Goals as goal

pub returns-clause-records : goal.returns-clause-records
returns-clause-records g c =
    let w = g.W.World in
    let k = g.K.Sink in
    (written w.history w.faults w.used_up w.broken k.gained k.refused k.faults c.new-recorded.result c.serve_from-status.new.world c.args.world c.into_parts-world.result.0 c.args.sink
    c.into_parts-world.result.1 c.args.basis.config c.args.first c.args.basis.seed (limit_of c.args.turns) c.serve_from-status.result.status c.status_by-status.result c.serve_from-status.result.core
    c.wrote_all.result c.new-recorded.ensures c.serve_from-status.ensures.serves c.wrote_all.ensures c.status_by-status.ensures c.into_parts-world.ensures.world c.into_parts-world.ensures.sink).0

pub returns-clause-sink_fares : goal.returns-clause-sink_fares
returns-clause-sink_fares g c =
    let w = g.W.World in
    let k = g.K.Sink in
    (written w.history w.faults w.used_up w.broken k.gained k.refused k.faults c.new-recorded.result c.serve_from-status.new.world c.args.world c.into_parts-world.result.0 c.args.sink
    c.into_parts-world.result.1 c.args.basis.config c.args.first c.args.basis.seed (limit_of c.args.turns) c.serve_from-status.result.status c.status_by-status.result c.serve_from-status.result.core
    c.wrote_all.result c.new-recorded.ensures c.serve_from-status.ensures.serves c.wrote_all.ensures c.status_by-status.ensures c.into_parts-world.ensures.world c.into_parts-world.ensures.sink).1.0

pub returns-clause-world_fares : goal.returns-clause-world_fares
returns-clause-world_fares g c =
    let w = g.W.World in
    let k = g.K.Sink in
    (written w.history w.faults w.used_up w.broken k.gained k.refused k.faults c.new-recorded.result c.serve_from-status.new.world c.args.world c.into_parts-world.result.0 c.args.sink
    c.into_parts-world.result.1 c.args.basis.config c.args.first c.args.basis.seed (limit_of c.args.turns) c.serve_from-status.result.status c.status_by-status.result c.serve_from-status.result.core
    c.wrote_all.result c.new-recorded.ensures c.serve_from-status.ensures.serves c.wrote_all.ensures c.status_by-status.ensures c.into_parts-world.ensures.world c.into_parts-world.ensures.sink).1.1

pub returns-clause-passed : goal.returns-clause-passed
returns-clause-passed g c =
    let w = g.W.World in
    let k = g.K.Sink in
    some_history w.history w.faults w.used_up w.broken k.gained k.refused k.faults c.args.world c.into_parts-world.result.0 c.args.sink c.into_parts-world.result.1 c.args.basis.config c.args.first
    c.args.basis.seed (limit_of c.args.turns) c.status_by-status.result c.serve_from-status.result.core
    (written w.history w.faults w.used_up w.broken k.gained k.refused k.faults c.new-recorded.result c.serve_from-status.new.world c.args.world c.into_parts-world.result.0 c.args.sink
    c.into_parts-world.result.1 c.args.basis.config c.args.first c.args.basis.seed (limit_of c.args.turns) c.serve_from-status.result.status c.status_by-status.result c.serve_from-status.result.core
    c.wrote_all.result c.new-recorded.ensures c.serve_from-status.ensures.serves c.wrote_all.ensures c.status_by-status.ensures c.into_parts-world.ensures.world c.into_parts-world.ensures.sink)

pub returns-clause-put : goal.returns-clause-put
returns-clause-put g c =
    let w = g.W.World in
    let k = g.K.Sink in
    some_text w.history w.faults w.used_up w.broken k.gained k.refused k.faults c.args.world c.into_parts-world.result.0 c.args.sink c.into_parts-world.result.1 c.args.basis.config c.args.first
    c.args.basis.seed (limit_of c.args.turns) c.status_by-status.result c.serve_from-status.result.core
    (written w.history w.faults w.used_up w.broken k.gained k.refused k.faults c.new-recorded.result c.serve_from-status.new.world c.args.world c.into_parts-world.result.0 c.args.sink
    c.into_parts-world.result.1 c.args.basis.config c.args.first c.args.basis.seed (limit_of c.args.turns) c.serve_from-status.result.status c.status_by-status.result c.serve_from-status.result.core
    c.wrote_all.result c.new-recorded.ensures c.serve_from-status.ensures.serves c.wrote_all.ensures c.status_by-status.ensures c.into_parts-world.ensures.world c.into_parts-world.ensures.sink)
