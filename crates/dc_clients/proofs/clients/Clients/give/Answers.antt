use Rattle.std.proofs.Common.{◌≡◌, Some, ap, sym, refl, ◌∙◌, subst}
use Rattle.std.specs.Prelude.{IsSome}
use Rattle.std.specs.List.{slice_get}
use Rattle.dc_model.specs.Event.{Event}
use Rattle.dc_model.specs.Transmission.{After}
use Rattle.dc_transmit.specs.Attempts.{occasion}
use Rattle.dc_transmit.specs.Standing.{followed}
use Rattle.dc_machine.specs.Turn.{Setting, State}
use Rattle.dc_machine.specs.Machine.{Active}
use Rattle.dc_desk.specs.View as desk
use Rattle.dc_resolve.specs.Turns.{turned_after}
use Rattle.dc_active.specs.View.{client_of, active}
use Rattle.dc_active.specs.declared.work.Work.{Work}
use Rattle.dc_clients.specs.View.{machine_of}
use Rattle.dc_clients.proofs.RequestLemmas.{took_event, ends_well, leaves_after, active_good}
use Rattle.dc_clients.proofs.clients.Clients.give.Goals as goal

pub settle-requires-clause-ended : goal.settle-requires-clause-ended
settle-requires-clause-ended g c =
    let v : Work = c.deref_mut-work.result.now in
    let a : Active = active c.take-taken.result.serial (client_of c.take-taken.result.client) v in
    let here : slice_get c.args.self.now.queries.queries c.args.i ≡ Some a = c.take-taken.ensures.taken ∙ ap (λ (w : Work). Some (active c.take-taken.result.serial (client_of c.take-taken.result.client) w)) (sym c.deref_mut-work.ensures.value) in
    let f : After = followed v.sender.attempt c.args.inbox.now (occasion c.args.inbox.now.now c.args.draws.now c.count.new.self.desk.link) in
    let t : Setting = desk.setting_of c.count.new.self.desk.zones c.count.new.self.desk.forward c.count.new.self.desk.counts c.args.inbox.now.now c.args.draws.now in
    let s : State = desk.at g.S.Store.cache v.query c.count.new.self.desk in
    let w : Work = record { query = c.event-outcome.new.query; sender = c.event-outcome.new.sender } in
    ends_well g.O.Effects.acted (turned_after f t s) (desk.at g.S.Store.cache w.query c.event-outcome.new.desk) c.event-outcome.new.desk.reply w c.event-outcome.result c.event-outcome.ensures.turn refl
    (λ x h. leaves_after f t s x (active_good (machine_of g.S.Store.cache c.args.self.now) c.args.i a c.requires.sound here) h)

pub returns-clause-step : goal.returns-clause-step
returns-clause-step g c =
    let v : Work = c.deref_mut-work.result.now in
    let a : Active = active c.take-taken.result.serial (client_of c.take-taken.result.client) v in
    let here : slice_get c.args.self.now.queries.queries c.args.i ≡ Some a = c.take-taken.ensures.taken ∙ ap (λ (w : Work). Some (active c.take-taken.result.serial (client_of c.take-taken.result.client) w)) (sym c.deref_mut-work.ensures.value) in
    let asks : IsSome v.sender.attempt = subst (λ (w : Work). IsSome w.sender.attempt) (sym c.deref_mut-work.ensures.value) c.take-taken.ensures.waiting.asking in
    took_event g.O.Effects.acted g.S.Store.cache g.met.O.Effects.acted_both c.args.inbox.now c.args.draws.now c.event.result.now c.args.i c.take-taken.new.self
    c.take-taken.result.serial (client_of c.take-taken.result.client) v c.event-outcome.new.query c.event-outcome.new.sender c.event-outcome.result
    (ap (λ (x : Event). x.now) c.event.ensures.event) c.take-taken.ensures.rest c.count.ensures
    (record { counts = c.event-outcome.ensures.counts; setting = c.event-outcome.ensures.setting; permit = refl; queries = refl; connections = refl })
    asks here c.event-outcome.ensures.turn c.settle.ensures.step
