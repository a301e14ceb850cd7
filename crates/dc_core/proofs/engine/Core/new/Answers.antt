use Rattle.dc_clients.specs.View.{machine_of, works}
use Rattle.dc_core.proofs.KeptLemmas.{opening_kept}
use Rattle.dc_core.proofs.engine.Core.new.Goals as goal

-- src/engine.rt:43:9
pub invariant_of-result : goal.invariant_of-result
invariant_of-result g c =
    let e = c.in_ok-new.ensures in
    opening_kept (machine_of g.S.Store.cache c.in_ok-new.field-0) (g.S.Store.cache c.args.store) (works c.in_ok-new.field-0) e.machine e.works
