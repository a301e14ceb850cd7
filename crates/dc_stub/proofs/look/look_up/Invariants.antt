use Rattle.std.proofs.Common.{length, ◌-◌, ◌≡◌, ◌+◌, map, drop}
use Rattle.dc_model.specs.Draws.{draws_of}
use Rattle.dc_lookup.specs.Lookup.{opened}
use Rattle.dc_stub.specs.Look.{job_of}
use Rattle.dc_stub.proofs.PassLemmas.{SoFar}
use Rattle.dc_stub.proofs.look.look_up.Given as goal

abbrev pub invariant-jobs : goal.invariant-jobs
invariant-jobs g l =
    let w = g.W.World in
    SoFar w.history w.used_up w.broken g.K.Sink.gained g.met.W.World.history_both g.met.K.Sink.gained_both
    l.fn.world l.fn.sink g.T.Shows.tool l.fn.servers (opened l.fn.servers (map job_of l.fn.jobs)) (draws_of l.fn.session.draws.seed) l.fn.session.left
    (map job_of (drop l.at l.jobs)) l.session.left l.world l.sink
    × (l.session.draws.seed ≡ l.fn.session.draws.seed)
    × (l.session.draws.given + l.session.left ≡ l.fn.session.left)
    × (g.K.Sink.faults l.sink ≡ g.K.Sink.faults l.fn.sink)
    × (w.faults l.world ≡ w.faults l.fn.world)

abbrev pub decreases-jobs : goal.decreases-jobs
decreases-jobs g l = length l.jobs - l.at
