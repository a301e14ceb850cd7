use Rattle.std.proofs.Common.{◌≡◌, ◌≢◌, ◌^◌, min}
use Rattle.dc_model.specs.Draws.{draws_of}
use Rattle.dc_filtering.proofs.RunLemmas.{fresh_is, fresh_room, fresh_draws, not_usage, not_files, not_memory, sifted_with}
use Rattle.dc_filtering.proofs.running.filter.Goals as goal

pub sift-requires-clause-engine : goal.sift-requires-clause-engine
sift-requires-clause-engine g c = fresh_is _ c.args.slots c.args.servers.now c.in-Ok.ensures.engine

pub sift-requires-clause-room : goal.sift-requires-clause-room
sift-requires-clause-room g c = fresh_room _ c.args.slots c.args.servers.now c.in-Ok.ensures.engine c.requires.least

pub sift-requires-clause-draws : goal.sift-requires-clause-draws
sift-requires-clause-draws g c = fresh_draws _ c.args.seed c.in-Ok.ensures.draws

pub returns-clause-usable : goal.returns-clause-usable
returns-clause-usable g c =
    not_usage g.S.Source.took g.S.Source.left g.K.Sink.gained g.W.World.history g.W.World.used_up g.W.World.broken _ _ _ _ _ _ (min c.args.turns (2 ^ 60)) _ _ _ c.sift.result c.sift.ensures.sifted

pub returns-clause-asked : goal.returns-clause-asked
returns-clause-asked g c =
    not_files g.S.Source.took g.S.Source.left g.K.Sink.gained g.W.World.history g.W.World.used_up g.W.World.broken _ _ _ _ _ _ (min c.args.turns (2 ^ 60)) _ _ _ c.sift.result c.sift.ensures.sifted

pub returns-clause-memory : goal.returns-clause-memory
returns-clause-memory g c e =
    absurd (not_memory g.S.Source.took g.S.Source.left g.K.Sink.gained g.W.World.history g.W.World.used_up g.W.World.broken _ _ _ _ _ _ (min c.args.turns (2 ^ 60)) _ _ _ c.sift.result c.sift.ensures.sifted e)

pub returns-clause-sifted : goal.returns-clause-sifted
returns-clause-sifted g c other =
    sifted_with g.S.Source.took g.S.Source.left g.K.Sink.gained g.W.World.history g.W.World.used_up g.W.World.broken _ _ _ _ _ _ (min c.args.turns (2 ^ 60)) c.in-Ok.sieve.engine c.in-Ok.sieve.draws c.args.slots c.args.servers.now c.args.seed c.sift.result
    c.in-Ok.ensures.engine c.in-Ok.ensures.draws c.sift.ensures.sifted
