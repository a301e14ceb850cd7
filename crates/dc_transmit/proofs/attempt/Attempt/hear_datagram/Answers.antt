use Rattle.std.proofs.Common.{◌∙◌, sym}
use Rattle.dc_transmit.specs.Attempts.{attempt_of, occasion}
use Rattle.dc_transmit.proofs.CaseLemmas.{datagram_over_tcp, datagram_long, datagram_irrelevant, datagram_heard}
use Rattle.dc_transmit.proofs.StepLemmas.{did_as, did_nothing}
use Rattle.dc_transmit.proofs.attempt.Attempt.hear_datagram.Goals as goal

pub returns-then-is_stream : goal.returns-then-is_stream
returns-then-is_stream g c =
    did_nothing g.O.Effects.acted g.met.O.Effects.acted_none _ _ c.args.self.now c.args.links.now
    (datagram_over_tcp c.args.packet.now (attempt_of c.args.self.now) (occasion c.args.now c.args.draws.now c.args.links.now) (sym c.is_stream.ensures ∙ c.if-is_stream.true))

pub returns-then-packet-gt-LONGEST_DATAGRAM : goal.returns-then-packet-gt-LONGEST_DATAGRAM
returns-then-packet-gt-LONGEST_DATAGRAM g c =
    did_nothing g.O.Effects.acted g.met.O.Effects.acted_none _ _ c.args.self.now c.args.links.now
    (datagram_long c.args.packet.now (attempt_of c.args.self.now) (occasion c.args.now c.args.draws.now c.args.links.now) c.if-packet-gt-LONGEST_DATAGRAM.true)

pub returns-else-is_relevant : goal.returns-else-is_relevant
returns-else-is_relevant g c =
    did_nothing g.O.Effects.acted g.met.O.Effects.acted_none _ _ c.args.self.now c.args.links.now
    (datagram_irrelevant c.args.packet.now (attempt_of c.args.self.now) (occasion c.args.now c.args.draws.now c.args.links.now) (sym c.is_relevant.ensures.relevant ∙ c.if-is_relevant.false))

pub returns-then-is_relevant : goal.returns-then-is_relevant
returns-then-is_relevant g c =
    did_as (datagram_heard c.args.packet.now (attempt_of c.args.self.now) (occasion c.args.now c.args.draws.now c.args.links.now) (sym c.is_stream.ensures ∙ c.if-is_stream.false) c.if-packet-gt-LONGEST_DATAGRAM.false
    (sym c.is_relevant.ensures.relevant ∙ c.if-is_relevant.true)) c.hear_answer.ensures
