use Rattle.std.proofs.Common.{length}
use Rattle.dc_frames.specs.View.{query_of}
use Rattle.dc_look.proofs.Looking.{IsLooking}
use Rattle.dc_look.proofs.zone.look_for.Given as goal

abbrev pub invariant-loop-item : goal.invariant-loop-item
invariant-loop-item g l = IsLooking g.O.Effects.acted l.fn.out l.out l.zone (query_of l.fn.query) (query_of l.query) l.initial.hosts l.hosts l.taken

abbrev pub decreases-loop-item : goal.decreases-loop-item
decreases-loop-item g l = length l.hosts
