use Rattle.std.proofs.Common.{◌+◌, ap, length, arith}
use Rattle.dc_lines.specs.Causes.{drop_cause_of}
use Rattle.dc_machine.proofs.Picks.{length-with_query}
use Rattle.dc_active.specs.Roll.{Roll}
use Rattle.dc_active.specs.View.{active_of}
use Rattle.dc_clients.proofs.SettleLemmas.{settling_waits, settling_replies, settling_drops}
use Rattle.dc_clients.proofs.clients.Clients.settle.Goals as goal

pub returns-in-Waiting-clause-step : goal.returns-in-Waiting-clause-step
returns-in-Waiting-clause-step g c = λ o e.
    settling_waits g.O.Effects.acted g.S.Store.cache g.met.O.Effects.acted_none c.args.out.now c.args.self.now c.args.taken c.args.outcome o c.args.now c.put.new.self
    c.in-Waiting.is e c.put.ensures

pub returns-in-Waiting-clause-works : goal.returns-in-Waiting-clause-works
returns-in-Waiting-clause-works g c =
    omega (arith, ap (λ (r : Roll). length r.queries + r.spare) c.put.ensures, length-with_query (active_of c.args.taken) c.args.self.now.queries.queries, c.requires.works)

pub returns-in-Replied-clause-step : goal.returns-in-Replied-clause-step
returns-in-Replied-clause-step g c = λ o e.
    settling_replies g.O.Effects.acted g.S.Store.cache c.args.self.now c.args.taken c.args.outcome o c.args.now c.give_back.new.self
    c.in-Replied.is e (ap (λ (r : Roll). r.queries) c.give_back.ensures) c.reply.ensures.step

pub returns-in-Dropped-clause-step : goal.returns-in-Dropped-clause-step
returns-in-Dropped-clause-step g c = λ o e.
    settling_drops g.O.Effects.acted g.S.Store.cache c.args.self.now c.args.taken c.args.outcome o c.args.now c.give_back-in-Dropped.new.self c.in-Dropped.cause (drop_cause_of c.drop_cause.result)
    c.in-Dropped.is e (ap (λ (r : Roll). r.queries) c.give_back-in-Dropped.ensures) c.drop_cause.ensures c.give_up.ensures.step
