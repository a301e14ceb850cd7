use Rattle.dc_shard.proofs.shards.Shards.events_count.Goals as goal

pub returns : goal.returns
returns g c = λ s e words. g.met.E.Engine.counts s e words
