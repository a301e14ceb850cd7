use Rattle.std.proofs.Common.{◌+◌, sym, subst, ◌∙◌}
use Rattle.std.specs.List.{remove}
use Rattle.dc_model.specs.Line.{DropCause}
use Rattle.dc_lines.specs.Causes.{close_cause_of}
use Rattle.dc_machine.specs.Machine.{Machine, Stepped, closed_alone, did, drop_actions}
use Rattle.dc_connections.specs.Places.{connection_at}
use Rattle.dc_clients.specs.View.{machine_of, Took}
use Rattle.dc_clients.specs.declared.clients.Clients.{Clients}
use Rattle.dc_clients.proofs.SettleLemmas.{stands, took_with, closing_some, closing_none}
use Rattle.dc_clients.proofs.clients.Clients.close.Goals as goal
use Rattle.dc_clients.proofs.clients.Clients.close.Goals.{in-Some, in_default}

pub returns-clause-step : goal.returns-clause-step
returns-clause-step g c =
    let cause = close_cause_of c.args.cause in
    let next : Clients g.row.S.Denot → Stepped = λ x. closed_alone cause (connection_at x.connections c.args.i) (machine_of g.S.Store.cache x) in
    elim c.match-find_connection.branch [
      | in-Some w ↦
          let there = stands c.args.self.now.queries.queries w.in-Some.place w.in-Some.ensures.range in
          let left : Machine = record (machine_of g.S.Store.cache c.args.self.now) { queries = remove c.args.self.now.queries.queries w.in-Some.place; dropped = c.args.self.now.desk.counts.dropped + 1 } in
          closing_some g.O.Effects.acted g.S.Store.cache g.met.O.Effects.acted_both cause c.args.i c.number-number.result w.in-Some.place there.0
          (sym w.in-Some.is ∙ c.find_connection.ensures.place) c.number-number.ensures there.1
          (subst (λ (x : DropCause). Took g.O.Effects.acted g.S.Store.cache c.args.out.now c.args.self.now w.drop_active.new.out w.drop_active.new.self (did (drop_actions x there.0) left))
          w.drop_cause.ensures (w.drop_active.ensures.step there.0 there.1))
          w.drop_active.ensures.connections
          (took_with g.O.Effects.acted g.S.Store.cache next w.out-is w.self-is c.close_alone.ensures.step)
      | in_default w ↦
          closing_none g.O.Effects.acted g.S.Store.cache cause c.args.i c.number-number.result (sym w.in_default.is ∙ c.find_connection.ensures.place) c.number-number.ensures
          (took_with g.O.Effects.acted g.S.Store.cache next w.out-is w.self-is c.close_alone.ensures.step)
    ]
