use Rattle.std.proofs.Common.{◌≡◌, ◌≢◌, ℕ, List, sym, ap, ◌∙◌, subst, min, ◌^◌}
use Rattle.dc_model.specs.Draws.{draws_of}
use Rattle.dc_model.proofs.MessageLemmas.{some_of}
use Rattle.dc_lookup.specs.Words as model
use Rattle.dc_lookup.specs.Lookup.{opened}
use Rattle.dc_stub.specs.Look.{Looked}
use Rattle.dc_stub.proofs.PassLemmas.{nothing_told}
use Rattle.dc_stub.proofs.BegunLemmas.{some_servers, servers_are}
use Rattle.dc_tools.proofs.RunLemmas.{files_fare}
use Rattle.dc_tools.proofs.running.run.Goals as goal

pub returns-in-Err-NoMemory-clause-ran : goal.returns-in-Err-NoMemory-clause-ran
returns-in-Err-NoMemory-clause-ran g c jobs e other =
    let servers = some_servers (g.F.Files.tree c.args.files.now) c.args.env.now in
    (servers.0, servers.1, nothing_told _ _ _ _ _ _ _ _ _ _ jobs (g.met.W.World.history_none c.args.world.now) (g.met.K.Sink.gained_none c.args.sink.now))

pub returns-clause-ran : goal.returns-clause-ran
returns-clause-ran g c jobs e other =
    let servers = some_servers (g.F.Files.tree c.args.files.now) c.args.env.now in
    (servers.0, servers.1, nothing_told _ _ _ _ _ _ _ _ _ _ jobs (g.met.W.World.history_none c.args.world.now) (g.met.K.Sink.gained_none c.args.sink.now))

pub returns-in-Ok-servers_of-clause-files_fare : goal.returns-in-Ok-servers_of-clause-files_fare
returns-in-Ok-servers_of-clause-files_fare g c =
    files_fare g.F.Files.asked g.F.Files.refused g.F.Files.faults g.W.World.history g.W.World.used_up g.W.World.broken g.K.Sink.gained _ _ _ _ _ _ _ _ c.run_jobs.result _ _ c.run_jobs.ensures.looked c.in-Ok-servers_of.ensures.fares
