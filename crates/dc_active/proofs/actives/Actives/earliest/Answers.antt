use Rattle.std.proofs.Common.{subst, ap, ◌∙◌}
use Rattle.dc_active.specs.Places.{IsEarliestOf}
use Rattle.dc_active.specs.Roll.{Roll}
use Rattle.dc_active.specs.View.{queries_of}
use Rattle.dc_active.proofs.EarliestLemmas.{earliest_within}
use Rattle.dc_active.proofs.actives.Actives.earliest.Goals as goal

pub returns-clause-range : goal.returns-clause-range
returns-clause-range c =
    earliest_within c.args.self.now.queries c.args.self.now.queries c.earliest.result
    (subst (λ qs. IsEarliestOf qs qs c.earliest.result) (ap (λ es. queries_of es) c.deref.ensures.value ∙ ap (λ (r : Roll). r.queries) c.self.view_is) c.earliest.ensures)
