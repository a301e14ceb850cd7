use Rattle.std.proofs.Common.{◌+◌, length, refl, sym, ◌∙◌, ap}
use Rattle.dc_packet.proofs.QueryLemmas.{length-query, query_written}
use Rattle.dc_packet.proofs.query.write_query.Goals as goal

pub returns-clause-length : goal.returns-clause-length
returns-clause-length c = ap (λ b. 16 + length b) c.wire-wire.ensures.bytes ∙ sym (length-query c.args.name.now c.args.qtype c.args.id c.args.recursive)

pub returns-clause-bytes : goal.returns-clause-bytes
returns-clause-bytes c =
    query_written c.args.name.now c.args.qtype c.args.id c.args.recursive c.flags.result (16 + length c.wire-wire.result.now) c.wire-wire.result.now
    c.put_header.new.out c.put.new.out c.put_u16.new.out c.put_u16-2.new.out c.wire-wire.ensures.bytes c.flags.ensures refl
    c.put_header.ensures.front c.put.ensures.front c.put_u16.ensures.front c.put_u16-2.ensures.front
