use Rattle.std.proofs.Common.{◌-◌, ◌≤◌, List, ◌++◌}
use Rattle.dc_model.specs.Cache.{Entry}
use Rattle.dc_model.specs.Layout.{Place, end_to_end}
use Rattle.dc_image.specs.Gathered.{Lies}
use Rattle.dc_image.specs.Fronts.{AreNoted}
use Rattle.dc_image.proofs.fronts.Fronts.pass.Given as goal

abbrev pub invariant-entries : goal.invariant-entries
invariant-entries l = record {
  after : l.from ≤ l.at;
  within : l.at ≤ l.up;
  done : (ps : List Place) → AreNoted l.block ps l.fn.self → (es : List Entry) × Lies l.block l.from l.at es × AreNoted l.block (end_to_end l.from es ++ ps) l.self;
}

abbrev pub decreases-entries : goal.decreases-entries
decreases-entries l = l.up - l.at
