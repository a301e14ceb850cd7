use Rattle.std.proofs.Common.{sym, ◌∙◌, ◌<◌, ◌≤◌, length, arith}
use Rattle.dc_clients.specs.View.{machine_of}
use Rattle.dc_clients.proofs.ClockLemmas.{so_far_none, so_far_passed, so_far_one, so_far_kept, so_far_sooner, among_all}
use Rattle.dc_clients.proofs.clients.Clients.first_idle.Goals as goal
use Rattle.dc_clients.proofs.clients.Clients.first_idle.Goals.{then-is_idle+in-Some, then-is_idle+in_default-2, then-is_idle+in_default, else-is_idle}

pub loop-i-init : goal.loop-i-init
loop-i-init g c = so_far_none (machine_of g.S.Store.cache c.args.self.now)

pub loop-i-preserved : goal.loop-i-preserved
loop-i-preserved g c =
    let within : c.loop-i.i < length c.args.self.now.connections = omega arith in
    elim c.if-is_idle.branch [
      | then-is_idle+in-Some w ↦ so_far_kept (machine_of g.S.Store.cache c.args.self.now) c.loop-i.i w.in-Some.place c.loop-i.first c.if-is_idle.first
          w.in-Some.is w.first-is within (sym c.is_idle.ensures ∙ w.if-is_idle.true) (sym w.is_sooner.ensures ∙ w.if-not-is_sooner.true) c.loop-i.invariant
      | then-is_idle+in_default-2 w ↦ so_far_sooner (machine_of g.S.Store.cache c.args.self.now) c.loop-i.i w.in-Some.place c.loop-i.first c.if-is_idle.first
          w.in-Some.is w.first-is within (sym c.is_idle.ensures ∙ w.if-is_idle.true) (sym w.is_sooner.ensures ∙ w.if-not-is_sooner.false) c.loop-i.invariant
      | then-is_idle+in_default w ↦ so_far_one (machine_of g.S.Store.cache c.args.self.now) c.loop-i.i c.loop-i.first c.if-is_idle.first
          w.in_default.is w.first-is within (sym c.is_idle.ensures ∙ w.if-is_idle.true) c.loop-i.invariant
      | else-is_idle w ↦ so_far_passed (machine_of g.S.Store.cache c.args.self.now) c.loop-i.i c.loop-i.first c.if-is_idle.first
          w.first-is within (sym c.is_idle.ensures ∙ w.if-is_idle.false) c.loop-i.invariant
    ]

pub returns-clause-first : goal.returns-clause-first
returns-clause-first g c =
    let past : length c.args.self.now.connections ≤ c.loop-i.i = omega arith in
    among_all (machine_of g.S.Store.cache c.args.self.now) c.loop-i.i c.loop-i.first past c.loop-i.invariant.found
