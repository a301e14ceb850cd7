use Rattle.std.proofs.Common.{◌^◌, refl, ap, ◌∙◌, arith}
use Rattle.dc_model.specs.Event.{Event}
use Rattle.dc_packet.specs.Question.{asked}
use Rattle.dc_machine.specs.Turn.{Setting, State, at_begin, turn}
use Rattle.dc_machine.proofs.Rows.{turn_waits}
use Rattle.dc_desk.specs.View as desk
use Rattle.dc_desk.specs.declared.desk.Counts.{Counts}
use Rattle.dc_resolve.specs.Turns as resolve
use Rattle.dc_active.specs.View.{client_of}
use Rattle.dc_active.specs.Roll.{Roll}
use Rattle.dc_active.specs.declared.work.Work.{Work}
use Rattle.dc_clients.specs.declared.clients.Clients.{Clients}
use Rattle.dc_clients.proofs.RequestLemmas.{took_begun, ends_well, begun_good, below_left}
use Rattle.dc_clients.proofs.clients.Clients.begin.Goals as goal

pub settle-requires-clause-ended : goal.settle-requires-clause-ended
settle-requires-clause-ended g c =
    let t : Setting = desk.setting_of c.count.new.self.desk.zones c.count.new.self.desk.forward c.count.new.self.desk.counts c.event-now.result.now c.args.draws.now in
    let s : State = resolve.begins (asked c.args.request.now) g.S.Store.cache c.count.new.self.desk in
    let w : Work = record { query = c.start-outcome.new.query; sender = c.start-outcome.new.sender } in
    ends_well g.O.Effects.acted (turn t at_begin s) (desk.at g.S.Store.cache w.query c.start-outcome.new.desk) c.start-outcome.new.desk.reply w c.start-outcome.result c.start-outcome.ensures.turn refl
    (λ x h. (turn_waits t at_begin s x (begun_good (asked c.args.request.now)) h).0)

pub settle-requires-clause-counts : goal.settle-requires-clause-counts
settle-requires-clause-counts g c =
    below_left (2 ^ 63) (2 ^ 63) (client_of c.args.client) c.start-outcome.new.desk.counts (omega arith) c.count.ensures c.start-outcome.ensures.counts c.requires.counts

pub returns-clause-step : goal.returns-clause-step
returns-clause-step g c =
    took_begun g.O.Effects.acted g.S.Store.cache g.met.O.Effects.acted_both c.args.inbox.now c.args.draws.now c.event-now.result.now (client_of c.args.client) c.args.serial (asked c.args.request.now) c.start-outcome.new.query c.start-outcome.new.sender c.start-outcome.result
    (ap (λ (x : Event). x.now) c.event-now.ensures.event) c.count.ensures
    (record { counts = c.start-outcome.ensures.counts; setting = c.start-outcome.ensures.setting; permit = refl; queries = ap (λ (x : Roll). x.queries) c.new_work.ensures.rest; connections = refl })
    c.start-outcome.ensures.turn
    c.settle.ensures.step

pub returns-clause-accepted : goal.returns-clause-accepted
returns-clause-accepted g c =
    c.settle.ensures.accepted ∙ ap (λ (x : Counts). x.accepted) c.start-outcome.ensures.counts ∙ ap (λ (x : Clients g.row.S.Denot). x.desk.counts.accepted) c.count.ensures
