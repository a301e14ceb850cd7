use Rattle.std.proofs.Common.{sym, ◌∙◌}
use Rattle.dc_clients.specs.View.{machine_of}
use Rattle.dc_clients.proofs.ClockLemmas.{wake_ready, wake_none, wake_due}
use Rattle.dc_clients.proofs.clients.Clients.wake.Goals as goal

pub returns-then-is_some : goal.returns-then-is_some
returns-then-is_some g c =
    wake_ready (machine_of g.S.Store.cache c.args.self.now) c.first_ready.result c.first_ready.ensures.ready (sym c.is_some.ensures ∙ c.if-is_some.true)

pub returns-in_err-due : goal.returns-in_err-due
returns-in_err-due g c =
    wake_none (machine_of g.S.Store.cache c.args.self.now) c.first_ready.result c.from_residual.result c.first_ready.ensures.ready
    (sym c.is_some.ensures ∙ c.if-is_some.false) c.in_err-due.ensures c.from_residual.ensures

pub returns : goal.returns
returns g c =
    wake_due (machine_of g.S.Store.cache c.args.self.now) c.first_ready.result c.in_ok-due.due c.deadline.result c.first_ready.ensures.ready
    (sym c.is_some.ensures ∙ c.if-is_some.false) c.in_ok-due.ensures c.deadline.ensures
