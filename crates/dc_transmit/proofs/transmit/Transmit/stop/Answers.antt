use Rattle.std.proofs.Common.{◌∙◌, ap, subst, List, ℕ}
use Rattle.std.specs.declared.option.Option.{Option}
use Rattle.dc_model.specs.Event.{Action}
use Rattle.dc_transmit.specs.Standing.{closed}
use Rattle.dc_transmit.proofs.StandingLemmas.{stopped_is}
use Rattle.dc_transmit.proofs.transmit.Transmit.stop.Goals as goal

pub returns-clause-acts : goal.returns-clause-acts
returns-clause-acts g c =
    subst (λ (xs : List Action). g.O.Effects.acted c.args.out.now xs c.close.new.out) (ap (λ (l : Option ℕ). closed l) c.link-open.ensures ∙ stopped_is c.args.self.now.attempt) c.close.ensures
