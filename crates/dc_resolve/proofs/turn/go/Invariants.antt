use Rattle.std.proofs.Common.{◌≡◌, ◌-◌, ◌<◌, ◌^◌}
use Rattle.std.specs.Prelude.{IsNone}
use Rattle.dc_machine.proofs.Taking.{IsTurning}
use Rattle.dc_desk.specs.View.{setting_at, at}
use Rattle.dc_desk.specs.Steps.{point_of}
use Rattle.dc_resolve.proofs.turn.go.Given as goal

abbrev pub invariant-loop-i : goal.invariant-loop-i
invariant-loop-i g l = record {
  turning : IsTurning g.O.Effects.acted l.fn.out l.out (setting_at l.fn.desk l.fn.moment) (setting_at l.desk l.fn.moment) (point_of l.fn.from) (at g.S.Store.cache l.fn.query l.fn.desk) (at g.S.Store.cache l.query l.desk) (point_of l.point) (4000 - l.i);
  idle : IsNone l.sender.attempt;
  links : l.desk.link < 2 ^ 60;
  counts : l.desk.counts ≡ l.fn.desk.counts;
}
