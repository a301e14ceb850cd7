use Rattle.std.proofs.Common.{◌-◌, ◌+◌, arith, refl, ◌∙◌}
use Rattle.dc_machine.specs.Turn.{Setting, State}
use Rattle.dc_machine.proofs.Taking.{turning_begins, turning_more, turning_ends}
use Rattle.dc_desk.specs.View.{setting_at, at}
use Rattle.dc_desk.specs.Steps.{point_of}
use Rattle.dc_resolve.proofs.TurnLemmas.{took_go, took_end, links_stay, turn_over}
use Rattle.dc_resolve.proofs.turn.go.Goals as goal

pub loop-i-init : goal.loop-i-init
loop-i-init g c = record {
  turning = turning_begins g.O.Effects.acted g.met.O.Effects.acted_none c.args.out.now (setting_at c.args.desk.now c.args.moment) (point_of c.args.from) (at g.S.Store.cache c.args.query.now c.args.desk.now) c.requires.good;
  idle = c.requires.idle;
  links = c.requires.links;
  counts = refl;
}

pub step-requires-clause-good : goal.step-requires-clause-good
step-requires-clause-good g c = c.loop-i.invariant.turning.good

pub step-requires-clause-idle : goal.step-requires-clause-idle
step-requires-clause-idle g c = c.loop-i.invariant.idle

pub step-requires-clause-links : goal.step-requires-clause-links
step-requires-clause-links g c = c.loop-i.invariant.links

pub loop-i-preserved : goal.loop-i-preserved
loop-i-preserved g c =
    let s : State = at g.S.Store.cache c.loop-i.query c.loop-i.desk in
    let t : State = at g.S.Store.cache c.step.new.query c.step.new.desk in
    let h : Setting = setting_at c.loop-i.desk c.args.moment in
    let w = took_go g.O.Effects.acted c.loop-i.out c.step.new.out h (point_of c.loop-i.point) (point_of c.in-Go.further) s t c.in-Go.ensures.took c.in-Go.ensures.next.0 in
    record {
      turning = turning_more g.O.Effects.acted g.met.O.Effects.acted_both c.args.out.now c.loop-i.out c.step.new.out
          (setting_at c.args.desk.now c.args.moment) h (setting_at c.step.new.desk c.args.moment) (point_of c.args.from) (at g.S.Store.cache c.args.query.now c.args.desk.now) s t
          (point_of c.loop-i.point) (point_of c.in-Go.further) (4000 - c.loop-i.i) (4000 - (c.loop-i.i + 1)) c.loop-i.invariant.turning (omega arith) w c.in-Go.ensures.setting;
      idle = c.in-Go.ensures.next.1;
      links = omega (arith, links_stay g.O.Effects.acted c.loop-i.out c.step.new.out h (point_of c.loop-i.point) (point_of c.in-Go.further) s t w, c.loop-i.invariant.links);
      counts = c.in-Go.ensures.counts ∙ c.loop-i.invariant.counts;
    }

pub returns-in-End-clause-turn : goal.returns-in-End-clause-turn
returns-in-End-clause-turn g c =
    let s : State = at g.S.Store.cache c.loop-i.query c.loop-i.desk in
    let t : State = at g.S.Store.cache c.step.new.query c.step.new.desk in
    let h : Setting = setting_at c.loop-i.desk c.args.moment in
    let n = c.in-End.ensures.next in
    turn_over g.O.Effects.acted c.args.out.now c.step.new.out (setting_at c.args.desk.now c.args.moment) (point_of c.args.from) (at g.S.Store.cache c.args.query.now c.args.desk.now) t
    c.step.new.desk.reply c.step.new.sender c.in-End.outcome n.0
    (turning_ends g.O.Effects.acted g.met.O.Effects.acted_both c.args.out.now c.loop-i.out c.step.new.out (setting_at c.args.desk.now c.args.moment) h (point_of c.args.from)
    (at g.S.Store.cache c.args.query.now c.args.desk.now) s t (point_of c.loop-i.point) n.0 (4000 - c.loop-i.i) (4000 - (c.loop-i.i + 1)) c.loop-i.invariant.turning (omega arith)
    (took_end g.O.Effects.acted c.loop-i.out c.step.new.out h (point_of c.loop-i.point) n.0 s t c.in-End.ensures.took n.1))
    n.2

pub returns-in-End-clause-setting : goal.returns-in-End-clause-setting
returns-in-End-clause-setting g c = c.in-End.ensures.setting ∙ c.loop-i.invariant.turning.same

pub returns-in-End-clause-counts : goal.returns-in-End-clause-counts
returns-in-End-clause-counts g c = c.in-End.ensures.counts ∙ c.loop-i.invariant.counts

pub unreachable-requires : goal.unreachable-requires
unreachable-requires g c = absurd (omega (arith, c.loop-i.invariant.turning.enough))
