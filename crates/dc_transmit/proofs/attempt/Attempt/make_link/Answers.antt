use Rattle.std.proofs.Common.{◌∙◌, sym}
use Rattle.dc_transmit.specs.Attempts.{attempt_of}
use Rattle.dc_model.specs.Transmission.{query_of}
use Rattle.dc_transmit.proofs.StepLemmas.{opening_tcp, opening_udp, query_behind}
use Rattle.dc_transmit.proofs.attempt.Attempt.make_link.Goals as goal

pub returns-then-is_stream : goal.returns-then-is_stream
returns-then-is_stream g c =
    rw (opening_tcp (attempt_of c.args.self.now) (sym c.is_stream.ensures ∙ c.if-is_stream.true), ← c.server-server.ensures) c.tcp.ensures

pub returns-else-is_stream : goal.returns-else-is_stream
returns-else-is_stream g c =
    rw (
      opening_udp (attempt_of c.args.self.now) (sym c.is_stream.ensures ∙ c.if-is_stream.false),
      ← c.server-server.ensures,
      ← query_behind (query_of (attempt_of c.args.self.now)) c.write_query-len.new.out c.write_query-len.result c.write_query-len.ensures.bytes,
    ) c.udp.ensures
