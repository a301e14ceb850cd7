use Rattle.std.proofs.Common.{◌≡◌, ◌+◌, refl, sym, ap, subst, ◌∙◌, [], ◌∷◌, List, ℕ}
use Rattle.std.specs.List.{remove}
use Rattle.dc_model.specs.Event.{line, link_close}
use Rattle.dc_model.specs.Line.{line_drop}
use Rattle.dc_transmit.specs.Standing.{stopped}
use Rattle.dc_lines.specs.Causes.{drop_cause_of}
use Rattle.dc_machine.specs.Machine.{Active, drop_actions}
use Rattle.dc_active.specs.Roll.{Roll}
use Rattle.dc_active.specs.View.{active_of}
use Rattle.dc_active.specs.declared.work.Work.{Work}
use Rattle.dc_clients.specs.View.{machine_of}
use Rattle.dc_clients.proofs.SettleLemmas.{stopped_is, same_active}
use Rattle.dc_clients.proofs.clients.Clients.drop_active.Goals as goal

pub returns-clause-step : goal.returns-clause-step
returns-clause-step g c = λ a there.
    let b : Active = active_of c.take-serial.result in
    let same : a ≡ b = same_active _ a b there c.take-serial.ensures.taken in
    let stops : stopped c.deref_mut.result.now.sender.attempt ≡ link_close b.attempt.link ∷ [] =
    ap (λ (w : Work). stopped w.sender.attempt) c.deref_mut.ensures.value ∙ stopped_is c.take-serial.result.work.value.sender.attempt c.take-serial.ensures.waiting.asking in
    let text : c.text.result.now ≡ line_drop b.serial (drop_cause_of c.args.cause) = c.text.ensures.bytes ∙ c.line_drop.ensures in
    let left : c.give_back.new.self.queries ≡ remove c.args.self.now.queries.queries c.args.i =
    ap (λ (r : Roll). r.queries) c.give_back.ensures ∙ ap (λ (r : Roll). r.queries) c.take-serial.ensures.rest in
    record {
      acts = subst (λ (x : Active). g.O.Effects.acted c.args.out.now (drop_actions (drop_cause_of c.args.cause) x) c.line.new.self) (sym same)
          (g.met.O.Effects.acted_then _ _ _ _ _
          (subst (λ as'. g.O.Effects.acted c.args.out.now as' c.stop.new.out) stops c.stop.ensures.acts)
          (subst (λ (t : List ℕ). g.O.Effects.acted c.stop.new.out (line t ∷ []) c.line.new.self) text c.line.ensures));
      machine = ap (λ (qs : List Active). record (machine_of g.S.Store.cache c.args.self.now) { queries = qs; dropped = c.args.self.now.desk.counts.dropped + 1 }) left;
      rules = refl;
    }
