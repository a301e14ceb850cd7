use Rattle.dc_transmit.proofs.StepLemmas.{did_accept}
use Rattle.dc_transmit.proofs.attempt.Attempt.accept_datagram.Goals as goal

pub returns : goal.returns
returns g c = did_accept g.O.Effects.acted _ _ c.args.packet.now c.args.self.now c.keep.new.self c.args.links.now c.keep.ensures c.link_close.ensures
