use Rattle.dc_clients.specs.View.{machine_of, rules_of, works}
use Rattle.dc_core.proofs.KeptLemmas.{kept_few, step_kept}
use Rattle.dc_core.proofs.engine.CoreEngine.step.Goals as goal

-- src/engine.rt:89:9
pub step-requires-clause-few : goal.step-requires-clause-few
step-requires-clause-few g c = kept_few (machine_of g.S.Store.cache c.self.inside.clients) (works c.self.inside.clients) c.self.inside.handled c.self.invariant

-- src/engine.rt:87:5
pub invariant_of-self : goal.invariant_of-self
invariant_of-self g c =
    step_kept (rules_of c.self.inside.clients) (machine_of g.S.Store.cache c.self.inside.clients) (machine_of g.S.Store.cache c.step.new.self) c.args.inbox.now c.args.draws.now
    (works c.self.inside.clients) (works c.step.new.self) c.self.inside.handled c.self.invariant c.step.ensures.step.machine c.step.ensures.works c.step.ensures.accepted
