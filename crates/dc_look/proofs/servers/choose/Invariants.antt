use Rattle.std.proofs.Common.{◌≡◌, length}
use Rattle.dc_model.specs.Name.{lower, suffixes}
use Rattle.dc_frames.specs.View.{query_of}
use Rattle.dc_machine.specs.Query.{name_of}
use Rattle.dc_machine.specs.Turn.{choice_of}
use Rattle.dc_desk.specs.View.{setting_at, at}
use Rattle.dc_look.proofs.servers.choose.Given as goal

abbrev pub invariant-loop-servers : goal.invariant-loop-servers
invariant-loop-servers g l = record {
  key : l.key ≡ lower l.zone;
  same : choice_of (setting_at l.desk l.moment) (at g.S.Store.cache l.query l.desk) (suffixes l.zone)
      ≡ choice_of (setting_at l.desk l.moment) (at g.S.Store.cache l.query l.desk) (suffixes (name_of (query_of l.query)));
}

abbrev pub decreases-loop-servers : goal.decreases-loop-servers
decreases-loop-servers g l = length l.zone
