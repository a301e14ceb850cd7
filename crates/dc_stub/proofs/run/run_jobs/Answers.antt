use Rattle.std.proofs.Common.{map}
use Rattle.dc_stub.specs.Look.{job_of}
use Rattle.dc_stub.proofs.PassLemmas.{nothing_told}
use Rattle.dc_stub.proofs.run.run_jobs.Goals as goal

pub returns-in_default-clause-looked : goal.returns-in_default-clause-looked
returns-in_default-clause-looked g c = nothing_told _ _ _ _ _ _ _ _ _ _ (map job_of c.args.jobs.now) (g.met.W.World.history_none c.args.world.now) (g.met.K.Sink.gained_none c.args.sink.now)
