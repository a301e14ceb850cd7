use Rattle.std.proofs.Common.{◌∙◌, sym}
use Rattle.dc_transmit.specs.Attempts.{attempt_of, occasion}
use Rattle.dc_transmit.proofs.CaseLemmas.{answered_short, answered_served, answered_badly}
use Rattle.dc_transmit.proofs.StepLemmas.{did_as}
use Rattle.dc_transmit.proofs.attempt.Attempt.hear_answer.Goals as goal

pub returns-then-is_truncated : goal.returns-then-is_truncated
returns-then-is_truncated g c =
    did_as (answered_short c.args.packet.now (attempt_of c.args.self.now) (occasion c.args.now c.args.draws.now c.args.links.now) (sym c.is_truncated.ensures ∙ c.if-is_truncated.true)) c.ask_by_tcp.ensures

pub returns-then-is_served : goal.returns-then-is_served
returns-then-is_served g c =
    did_as (answered_served c.args.packet.now (attempt_of c.args.self.now) (occasion c.args.now c.args.draws.now c.args.links.now) (sym c.is_truncated.ensures ∙ c.if-is_truncated.false) (sym c.is_served.ensures ∙ c.if-is_served.true))
    c.accept_datagram.ensures

pub returns-else-is_served : goal.returns-else-is_served
returns-else-is_served g c =
    did_as (answered_badly c.args.packet.now (attempt_of c.args.self.now) (occasion c.args.now c.args.draws.now c.args.links.now) (sym c.is_truncated.ensures ∙ c.if-is_truncated.false) (sym c.is_served.ensures ∙ c.if-is_served.false))
    c.hear_bad_news.ensures
