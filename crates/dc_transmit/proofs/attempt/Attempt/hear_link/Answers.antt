use Rattle.std.proofs.Common.{◌∙◌, sym}
use Rattle.dc_transmit.specs.Attempts.{attempt_of}
use Rattle.dc_transmit.proofs.EventLemmas.{link_datagram, link_datagram_strange, link_bytes_from, link_bytes_strange, link_is_up, link_is_down, link_refused, link_other}
use Rattle.dc_transmit.proofs.StepLemmas.{did_as, did_nothing}
use Rattle.dc_transmit.proofs.attempt.Attempt.hear_link.Goals as goal

pub returns-then-is_from_server : goal.returns-then-is_from_server
returns-then-is_from_server g c = did_as (link_datagram c.event-event.result c.args.inbox.now (attempt_of c.args.self.now) c.args.draws.now c.args.links.now c.event-event.ensures.event c.in-Datagram.is (sym c.is_from_server.ensures ∙ c.if-is_from_server.true) c.bytes.ensures.bytes) c.hear_datagram.ensures

pub returns-else-is_from_server : goal.returns-else-is_from_server
returns-else-is_from_server g c =
    did_nothing g.O.Effects.acted g.met.O.Effects.acted_none _ _ c.args.self.now c.args.links.now
    (link_datagram_strange c.event-event.result c.args.inbox.now (attempt_of c.args.self.now) c.args.draws.now c.args.links.now c.event-event.ensures.event c.in-Datagram.is (sym c.is_from_server.ensures ∙ c.if-is_from_server.false))

pub returns-then-is_from_server-2 : goal.returns-then-is_from_server-2
returns-then-is_from_server-2 g c = did_as (link_bytes_from c.event-event.result c.args.inbox.now (attempt_of c.args.self.now) c.args.draws.now c.args.links.now c.event-event.ensures.event c.in-LinkBytes.is (sym c.is_from_server-in-LinkBytes.ensures ∙ c.if-is_from_server-2.true) c.bytes-then-is_from_server-2.ensures.bytes) c.hear_bytes.ensures

pub returns-else-is_from_server-2 : goal.returns-else-is_from_server-2
returns-else-is_from_server-2 g c =
    did_nothing g.O.Effects.acted g.met.O.Effects.acted_none _ _ c.args.self.now c.args.links.now
    (link_bytes_strange c.event-event.result c.args.inbox.now (attempt_of c.args.self.now) c.args.draws.now c.args.links.now c.event-event.ensures.event c.in-LinkBytes.is (sym c.is_from_server-in-LinkBytes.ensures ∙ c.if-is_from_server-2.false))

pub returns-in-LinkUp : goal.returns-in-LinkUp
returns-in-LinkUp g c = did_as (link_is_up c.event-event.result c.args.inbox.now (attempt_of c.args.self.now) c.args.draws.now c.args.links.now c.event-event.ensures.event c.in-LinkUp.is) c.hear_up.ensures

pub returns-in-LinkDown : goal.returns-in-LinkDown
returns-in-LinkDown g c = did_as (link_is_down c.event-event.result c.args.inbox.now (attempt_of c.args.self.now) c.args.draws.now c.args.links.now c.event-event.ensures.event c.in-LinkDown.is) c.hear_bad_news.ensures

pub returns-in-BindRefused : goal.returns-in-BindRefused
returns-in-BindRefused g c = did_as (link_refused c.event-event.result c.args.inbox.now (attempt_of c.args.self.now) c.args.draws.now c.args.links.now c.event-event.ensures.event c.in-BindRefused.is) c.hear_refusal.ensures

pub returns-in_default : goal.returns-in_default
returns-in_default g c =
    did_nothing g.O.Effects.acted g.met.O.Effects.acted_none _ _ c.args.self.now c.args.links.now
    (link_other c.event-event.result c.args.inbox.now (attempt_of c.args.self.now) c.args.draws.now c.args.links.now c.event-event.ensures.event c.in_default.not-Datagram c.in_default.not-LinkBytes c.in_default.not-LinkUp c.in_default.not-LinkDown c.in_default.not-BindRefused)
