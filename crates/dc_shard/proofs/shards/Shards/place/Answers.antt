use Rattle.dc_shard.proofs.BayLemmas.{free_from, room_for}
use Rattle.dc_shard.proofs.shards.Shards.place.Goals as goal

pub returns : goal.returns
returns g c =
    let bays = c.args.self.now.bays.items in
    let within = c.route-core.ensures.within in
    record {
      kind = c.is_tick.ensures.no c.if-is_tick.false;
      goes = c.route-core.ensures.core;
      within = within;
      free = free_from bays c.route-core.result c.index.result.now within c.index.ensures c.if-index.false;
      room = room_for bays c.route-core.result within (free_from bays c.route-core.result c.index.result.now within c.index.ensures c.if-index.false);
    }
