use Rattle.std.proofs.Common.{◌≡◌, refl, ap, subst, [], ◌∷◌, List, ℕ}
use Rattle.dc_model.specs.Event.{line, conn_close}
use Rattle.dc_model.specs.Line.{line_tcpclose}
use Rattle.dc_lines.specs.Causes.{close_cause_of}
use Rattle.dc_machine.specs.Machine.{Connection, closed_alone}
use Rattle.dc_connections.specs.Places.{connection_at}
use Rattle.dc_clients.specs.View.{machine_of}
use Rattle.dc_clients.proofs.SettleLemmas.{closing_line}
use Rattle.dc_clients.proofs.clients.Clients.close_alone.Goals as goal

pub returns-clause-step : goal.returns-clause-step
unfolding closed_alone
returns-clause-step g c =
    let d : Connection = connection_at c.args.self.now.connections c.args.i in
    let text : c.text.result.now ≡ line_tcpclose d.addr d.port (close_cause_of c.args.cause) =
    closing_line c.text.result.now c.line_tcpclose.new.out c.addr.result d.addr c.port.result d.port (close_cause_of c.args.cause) c.text.ensures.bytes c.line_tcpclose.ensures c.addr.ensures c.port.ensures in
    record {
      acts = g.met.O.Effects.acted_then _ _ _ _ _
          (subst (λ (t : List ℕ). g.O.Effects.acted c.args.out.now (line t ∷ []) c.line.new.self) text c.line.ensures)
          (subst (λ (n : ℕ). g.O.Effects.acted c.line.new.self (conn_close n ∷ []) c.conn_close.new.self) c.number-number.ensures c.conn_close.ensures);
      machine = ap (λ (cs : List Connection). record (machine_of g.S.Store.cache c.args.self.now) { connections = cs }) c.close.ensures.connections;
      rules = refl;
    }
