use Rattle.std.proofs.Common.{◌∙◌, sym}
use Rattle.dc_transmit.specs.Attempts.{attempt_of}
use Rattle.dc_transmit.proofs.CaseLemmas.{up_ignored}
use Rattle.dc_transmit.proofs.StepLemmas.{did_nothing, did_write}
use Rattle.dc_transmit.proofs.attempt.Attempt.hear_up.Goals as goal

pub returns-then-is_connecting : goal.returns-then-is_connecting
returns-then-is_connecting g c =
    did_write g.O.Effects.acted _ _ c.args.self.now _ c.args.links.now (sym c.is_connecting.ensures ∙ c.if-is_connecting.true) c.write_query-len.ensures.bytes c.link_write.ensures

pub returns-else-is_connecting : goal.returns-else-is_connecting
returns-else-is_connecting g c =
    did_nothing g.O.Effects.acted g.met.O.Effects.acted_none _ _ c.args.self.now c.args.links.now
    (up_ignored (attempt_of c.args.self.now) c.args.links.now (sym c.is_connecting.ensures ∙ c.if-is_connecting.false))
