use Rattle.dc_sim.proofs.ReplyLemmas.{soa_written}
use Rattle.dc_sim.proofs.reply.put_soa.Goals as goal

pub returns-clause-items : goal.returns-clause-items
returns-clause-items c =
    rw (c.put-2.ensures.items, c.put.ensures.items, c.put_front.ensures.items)
    (soa_written c.args.out.now.items c.args.zone.now c.args.server.now c.wire-wire.result.now c.wire-wire.ensures.bytes)
