use Rattle.std.proofs.Common.{◌+◌, refl, ap, ◌∙◌}
use Rattle.dc_lines.specs.Causes.{drop_cause_of}
use Rattle.dc_machine.specs.Machine.{Machine, dropped_for}
use Rattle.dc_active.specs.View.{client_of}
use Rattle.dc_active.specs.declared.client.Client.{Client}
use Rattle.dc_clients.specs.View.{machine_of}
use Rattle.dc_clients.proofs.TookLemmas.{took_nothing}
use Rattle.dc_clients.proofs.SettleLemmas.{giving_up, dropped_open, dropped_gone, dropped_udp}
use Rattle.dc_clients.proofs.clients.Clients.give_up.Goals as goal

pub returns-in-Some-clause-step : goal.returns-in-Some-clause-step
returns-in-Some-clause-step g c =
    let m : Machine = record (machine_of g.S.Store.cache c.args.self.now) { dropped = c.args.self.now.desk.counts.dropped + 1 } in
    giving_up g.O.Effects.acted g.S.Store.cache g.met.O.Effects.acted_both c.text.result.now c.line_drop.new.out c.args.serial (drop_cause_of c.args.cause) _ _
    c.text.ensures.bytes c.line_drop.ensures c.line.ensures
    (ap (λ (k : Client). dropped_for (client_of k) m) c.in-Tcp.is ∙ dropped_open c.in-Tcp.number c.in-Some.i m c.in-Some.ensures.found)
    refl c.close_alone.ensures.step

pub returns-in_default-find-clause-step : goal.returns-in_default-find-clause-step
returns-in_default-find-clause-step g c =
    let m : Machine = record (machine_of g.S.Store.cache c.args.self.now) { dropped = c.args.self.now.desk.counts.dropped + 1 } in
    giving_up g.O.Effects.acted g.S.Store.cache g.met.O.Effects.acted_both c.text.result.now c.line_drop.new.out c.args.serial (drop_cause_of c.args.cause) _ _
    c.text.ensures.bytes c.line_drop.ensures c.line.ensures
    (ap (λ (k : Client). dropped_for (client_of k) m) c.in-Tcp.is ∙ dropped_gone c.in-Tcp.number m c.in_default-find.ensures.found)
    refl (took_nothing g.O.Effects.acted g.S.Store.cache g.met.O.Effects.acted_none _ _)

pub returns-in_default-clause-step : goal.returns-in_default-clause-step
returns-in_default-clause-step g c =
    let m : Machine = record (machine_of g.S.Store.cache c.args.self.now) { dropped = c.args.self.now.desk.counts.dropped + 1 } in
    giving_up g.O.Effects.acted g.S.Store.cache g.met.O.Effects.acted_both c.text.result.now c.line_drop.new.out c.args.serial (drop_cause_of c.args.cause) _ _
    c.text.ensures.bytes c.line_drop.ensures c.line.ensures
    (ap (λ (k : Client). dropped_for (client_of k) m) c.in_default.is ∙ dropped_udp c.in_default.field-0 c.in_default.field-1 m)
    refl (took_nothing g.O.Effects.acted g.S.Store.cache g.met.O.Effects.acted_none _ _)
