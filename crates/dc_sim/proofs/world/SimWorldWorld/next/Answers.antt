use Rattle.std.proofs.Common.{refl, ap, sym, ◌∙◌}
use Rattle.dc_simulation.specs.World as model
use Rattle.dc_simulation.proofs.WorldLemmas.{all_given}
use Rattle.dc_sim.proofs.world.SimWorldWorld.next.Goals as goal

pub returns-then-self-clause-given : goal.returns-then-self-clause-given
returns-then-self-clause-given c =
    let w = c.args.self.now in
    (all_given c.args.wake w (ap (λ (x : model.World). x.given) (sym c.self.view_is) ∙ c.if-self.true ∙ ap (λ (x : model.World). x.events) c.self.view_is), refl)

pub returns-then-self-clause-history : goal.returns-then-self-clause-history
returns-then-self-clause-history c = (c.args.self.now, (returns-then-self-clause-given c, refl))
