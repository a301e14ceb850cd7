use Rattle.std.proofs.Common.{rules, ◌≡◌}
use Rattle.dc_play.specs.Playing.{limit_of}
use Rattle.dc_status.specs.Faults.{fault_of, sink_well, world_well}
use Rattle.dc_recording.proofs.TopLemmas.{records_lent, sink_lent, world_lent}
use Rattle.dc_recording.proofs.written.serve_lent.Goals as goal

pub returns-clause-world_fares : goal.returns-clause-world_fares
returns-clause-world_fares g c =
    world_lent g.W.World.faults (world_well (fault_of c.serve_written.new.session.status)) c.args.world.now _ c.new-lent.result.world.now c.serve_written.result.0.world.now
    (search rules) (search rules) c.serve_written.ensures.world_fares

pub returns-clause-sink_fares : goal.returns-clause-sink_fares
returns-clause-sink_fares g c =
    let k = g.K.Sink in
    sink_lent (λ l. l.now) k.gained k.refused k.faults _ _ (λ a b xs p. p.1) (λ a b p. p.1) (sink_well (fault_of c.serve_written.new.session.status))
    c.args.sink.now _ _ c.serve_written.result.1 (search rules) (search rules) c.serve_written.ensures.sink_fares

pub returns-clause-records : goal.returns-clause-records
returns-clause-records g c =
    let w = g.W.World in
    let k = g.K.Sink in
    records_lent (λ v. v.world.now) (λ l. l.now) w.history w.used_up w.broken k.gained
    (λ a h b. (b.world.ghost_name ≡ a.world.ghost_name) × w.history a.world.now h b.world.now) (λ a xs b. (b.ghost_name ≡ a.ghost_name) × k.gained a.now xs b.now) (λ a b h p. p.1) (λ a b xs p. p.1) g.met.K.Sink.gained_none g.met.K.Sink.gained_both
    c.args.world.now _ c.args.sink.now _ c.new-lent.result c.serve_written.result.0 _ c.serve_written.result.1 c.args.basis.config c.args.first c.args.basis.seed (limit_of c.args.turns) _ _
    (search rules) (search rules) (search rules) (search rules) c.serve_written.ensures.records
