use Rattle.std.proofs.Common.{◌∙◌, ap, subst, [], ◌∷◌}
use Rattle.dc_model.specs.Name.{Name}
use Rattle.dc_model.specs.Transmission.{Attempt, waiting, opening_of, started}
use Rattle.dc_transmit.specs.Attempts.{occasion}
use Rattle.dc_transmit.specs.Standing.{standing_at}
use Rattle.dc_transmit.proofs.transmit.Transmit.start.Goals as goal

pub returns-clause-standing : goal.returns-clause-standing
returns-clause-standing g c =
    ap (λ (x : Attempt). standing_at (waiting x)) (c.start.ensures.attempt
    ∙ ap (λ (n : Name). started n c.args.qtype c.args.recursive c.args.servers.now (occasion c.args.now c.args.draws.now c.args.link.now)) c.copy-copied.ensures)

pub returns-clause-acts : goal.returns-clause-acts
returns-clause-acts g c =
    subst (λ (n : Name). g.O.Effects.acted c.args.out.now (opening_of (started n c.args.qtype c.args.recursive c.args.servers.now (occasion c.args.now c.args.draws.now c.args.link.now)) ∷ []) c.start.new.out)
    c.copy-copied.ensures c.start.ensures.acts
