use Rattle.std.proofs.Common.{◌≡◌, ◌+◌, ap, subst, ◌∙◌, [], ◌∷◌, List, ℕ, length}
use Rattle.dc_model.specs.Event.{line, reply, conn_reply}
use Rattle.dc_model.specs.Line.{line_sent}
use Rattle.dc_model.specs.Reply.{udp_bytes, tcp_bytes, reply_bytes}
use Rattle.dc_machine.specs.Machine.{Machine, Connection, replied_to}
use Rattle.dc_active.specs.View.{client_of}
use Rattle.dc_active.specs.declared.client.Client.{Client}
use Rattle.dc_clients.specs.View.{machine_of, rules_of}
use Rattle.dc_clients.specs.declared.clients.Clients.{Clients}
use Rattle.dc_clients.proofs.TookLemmas.{took_as}
use Rattle.dc_clients.proofs.SettleLemmas.{framed_length}
use Rattle.dc_clients.proofs.clients.Clients.reply.Goals as goal
use Rattle.dc_clients.proofs.clients.Clients.reply.Goals.{in-Udp, in-Tcp}

pub returns-clause-step : goal.returns-clause-step
unfolding replied_to
returns-clause-step g c = λ r e.
    let m : Machine = machine_of g.S.Store.cache c.args.self.now in
    elim c.match-client.branch [
      | in-Udp w ↦
          let bytes : w.finish_udp-bytes.result.now ≡ udp_bytes r = w.finish_udp-bytes.ensures.bytes r e in
          let text : c.text.result.now ≡ line_sent c.args.serial (length (udp_bytes r)) =
          c.text.ensures.bytes ∙ (w.line-is ∙ (w.line_sent.ensures ∙ ap (λ (bs : List ℕ). line_sent c.args.serial (length bs)) bytes)) in
          took_as g.O.Effects.acted g.S.Store.cache _ _ (ap (λ (k : Client). replied_to (client_of k) c.args.serial c.args.now r m) w.in-Udp.is)
          (record {
            acts = g.met.O.Effects.acted_then _ _ _ _ _
                (subst (λ (bs : List ℕ). g.O.Effects.acted c.args.out.now (reply w.in-Udp.addr w.in-Udp.port bs ∷ []) w.reply.new.self) bytes w.reply.ensures)
                (subst (λ (x : g.row.O.Denot). g.O.Effects.acted x (line (line_sent c.args.serial (length (udp_bytes r))) ∷ []) c.line.new.self) w.out-is
                (subst (λ (t : List ℕ). g.O.Effects.acted c.match-client.out (line t ∷ []) c.line.new.self) text c.line.ensures));
            machine = ap (λ (x : Clients g.row.S.Denot). machine_of g.S.Store.cache x) w.self-is;
            rules = ap (λ (x : Clients g.row.S.Denot). rules_of x) w.self-is;
          })
      | in-Tcp w ↦
          let bytes : w.finish_tcp-bytes.result.now ≡ tcp_bytes r = w.finish_tcp-bytes.ensures.bytes r e in
          let size : w.saturating_sub.result ≡ length (reply_bytes r) = framed_length r w.finish_tcp-bytes.result.now w.saturating_sub.result bytes w.saturating_sub.ensures in
          let text : c.text.result.now ≡ line_sent c.args.serial (length (reply_bytes r)) =
          c.text.ensures.bytes ∙ (w.line-is ∙ (w.line_sent-in-Tcp.ensures ∙ ap (λ (n : ℕ). line_sent c.args.serial n) size)) in
          took_as g.O.Effects.acted g.S.Store.cache _ _ (ap (λ (k : Client). replied_to (client_of k) c.args.serial c.args.now r m) w.in-Tcp.is)
          (record {
            acts = g.met.O.Effects.acted_then _ _ _ _ _
                (subst (λ (bs : List ℕ). g.O.Effects.acted c.args.out.now (conn_reply w.in-Tcp.number bs ∷ []) w.conn_reply.new.self) bytes w.conn_reply.ensures)
                (subst (λ (x : g.row.O.Denot). g.O.Effects.acted x (line (line_sent c.args.serial (length (reply_bytes r))) ∷ []) c.line.new.self) w.out-is
                (subst (λ (t : List ℕ). g.O.Effects.acted c.match-client.out (line t ∷ []) c.line.new.self) text c.line.ensures));
            machine = ap (λ (x : Clients g.row.S.Denot). machine_of g.S.Store.cache x) w.self-is
                ∙ ap (λ (cs : List Connection). record m { sent = m.sent + 1; connections = cs }) w.renew.ensures.connections;
            rules = ap (λ (x : Clients g.row.S.Denot). rules_of x) w.self-is;
          })
    ]
