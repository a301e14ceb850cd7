use Rattle.std.proofs.Common.{IsSome, sym, subst, ◌∙◌}
use Rattle.dc_transmit.specs.Standing.{Standing}
use Rattle.dc_transmit.proofs.StandingLemmas.{packet_heard}
use Rattle.dc_transmit.proofs.tests.run.Goals as goal

pub packet-requires : goal.packet-requires
packet-requires g c =
    subst (λ (s : Standing). IsSome s.accepted) (sym c.on_event-progress.ensures.standing) (packet_heard _ (sym c.in-Packet.is ∙ c.on_event-progress.ensures.answer))

pub server-requires : goal.server-requires
server-requires g c =
    subst (λ (s : Standing). IsSome s.accepted) (sym c.on_event-progress.ensures.standing) (packet_heard _ (sym c.in-Packet.is ∙ c.on_event-progress.ensures.answer))

pub place-requires : goal.place-requires
place-requires g c =
    subst (λ (s : Standing). IsSome s.accepted) (sym c.on_event-progress.ensures.standing) (packet_heard _ (sym c.in-Packet.is ∙ c.on_event-progress.ensures.answer))
